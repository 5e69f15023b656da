-- `ordering::data::put_pixels` meets its contract.
use mathlib.Core.Path.{refl, ap, ◌∙◌}
use mathlib.Core.List.{List}
use Prim.Native.Nat.{ℕ, ◌+◌, ◌-◌, ◌*◌}
use native.Mathlib.Omega.{arith}
use lib.ListN.{length, take, drop, length-take, length-drop}
use Rattle.scan.specs.Buffer.{over}
use Rattle.append.proofs.Appending.{part_appended, within, within_more}
use Rattle.delivery.proofs.Planes.{octets_all}
use Rattle.frame.specs.File.{frame_type, stored_pixels}
use Rattle.frame.proofs.Allowed.{few_configurations}
use Rattle.frame.proofs.Codes.{type_narrow}
use Rattle.frame.proofs.ShapeLaws.{allowed, shape_total}
use Rattle.ordering.proofs.StoredOrder.{walked, stored_whole}
use Rattle.ordering.proofs.data.put_pixels.Goals as goal

pub walk_of-walk-requires : goal.walk_of-walk-requires
walk_of-walk-requires c =
    let a = allowed c.args.f c.requires.f_value.0 in record {
      le_number = (a.configuration.low, omega (arith, a.configuration.high, few_configurations c.args.f.n a.n));
      small = (c.shape_of.ensures.small, omega (arith, c.width_of.ensures, type_narrow c.args.f.datatype a.datatype));
    }

pub deliver-requires : goal.deliver-requires
deliver-requires c =
    let ok = allowed c.args.f c.requires.f_value.0 in
    let octets = octets_all c.args.pixels.now (λ k. (c.type_inv.pixels k).fits) in
    let total = shape_total c.args.f c.shape_of.result ok c.shape_of.ensures in
    let whole = c.requires.f_value.1 ∙ ap (λ (k : ℕ). k * (frame_type c.args.f).width) total in
    let x = walked c.args.f c.shape_of.result ok c.shape_of.ensures c.args.pixels.now octets whole c.width_of.ensures c.walk_of-walk.ensures.steps_value c.walk_of-walk.ensures.dim1_value.0 c.walk_of-walk.ensures.dim1_value.1 c.walk_of-walk.ensures.dim3_value in
    record { inside3 = x.inside; dim1_bound = (omega (arith, x.row), simp (length-take, length-drop) (omega (arith, x.room, c.requires.room))) }

pub returns : goal.returns
returns c =
    let ok = allowed c.args.f c.requires.f_value.0 in
    let octets = octets_all c.args.pixels.now (λ k. (c.type_inv.pixels k).fits) in
    let total = shape_total c.args.f c.shape_of.result ok c.shape_of.ensures in
    let whole = c.requires.f_value.1 ∙ ap (λ (k : ℕ). k * (frame_type c.args.f).width) total in
    let x = walked c.args.f c.shape_of.result ok c.shape_of.ensures c.args.pixels.now octets whole c.width_of.ensures c.walk_of-walk.ensures.steps_value c.walk_of-walk.ensures.dim1_value.0 c.walk_of-walk.ensures.dim1_value.1 c.walk_of-walk.ensures.dim3_value in
    let size = stored_whole c.args.f c.args.pixels.now c.requires.f_value.1 in
    let all = c.args.out.now in
    within_more (omega (arith, size)) (within (part_appended (stored_pixels c.args.f c.args.pixels.now) all.bytes.now _ all.at (length all.bytes.now - all.at) (all.at + length c.args.pixels.now)
    (c.deliver.ensures ∙ ap (λ (l : List ℕ). over l (take (length all.bytes.now - all.at) (drop all.at all.bytes.now))) x.is) (omega (arith, size, c.requires.room)) (omega (arith, size)) (omega (arith, c.requires.room))) refl)
