-- `array::pixel::place_of` meets its contract: along index 3, then 2, then 1.
use mathlib.Core.Path.{sym, ap, subst, ◌∙◌}
use Prim.Native.Nat.{ℕ, ◌≤◌}
use native.Mathlib.Omega.{arith}
use lib.ListN.{length, take, drop}
use Rattle.raster.specs.Strided.{Stands, place, place_of}
use Rattle.raster.specs.declared.stride.Steps.{Steps}
use Rattle.description.specs.Shape.{array_type}
use Rattle.array.proofs.DeliveryLaws.{few, steps_fit, steps_are, stored_place}
use Rattle.array.proofs.PixelLaws.{index_inside, element_reached}
use Rattle.array.proofs.pixel.place_of.Goals as goal

pub steps_of-steps-requires : goal.steps_of-steps-requires
steps_of-steps-requires c =
    let h = index_inside c.args.d c.args.i1 c.args.i2 c.args.i3 c.requires.index in
    let valid = c.requires.valid_array in
    let some1 : 1 ≤ c.args.d.dim1 = omega arith in
    record {
      le_configuration = (valid.configured.0, few c.args.d _ valid);
      le_dim1 = (some1, valid.some2, valid.some3);
      dim3_bound = steps_fit c.args.d _ valid c.width_of-width.result c.width_of-width.ensures (omega arith);
    }

pub spot-plane-requires : goal.spot-plane-requires
spot-plane-requires c =
    (element_reached c.args.d c.args.i1 c.args.i2 c.args.i3 c.requires.index c.requires.valid_array c.width_of-width.ensures c.steps_of-steps.ensures).plane

pub spot-row-requires : goal.spot-row-requires
spot-row-requires c =
    subst (λ (p : ℕ). Stands p c.steps_of-steps.result.up2 c.steps_of-steps.result.down2 0 (length c.args.src.now) c.args.i2)
    (sym c.spot-plane.ensures.0)
    (element_reached c.args.d c.args.i1 c.args.i2 c.args.i3 c.requires.index c.requires.valid_array c.width_of-width.ensures c.steps_of-steps.ensures).row

pub spot-requires : goal.spot-requires
spot-requires c =
    let t = c.steps_of-steps.result in
    let row = c.spot-row.ensures.0 ∙ ap (λ (p : ℕ). place p t.up2 t.down2 c.args.i2) c.spot-plane.ensures.0 in
    subst (λ (p : ℕ). Stands p t.up1 t.down1 c.width_of-width.result (length c.args.src.now) c.args.i1)
    (sym row)
    (element_reached c.args.d c.args.i1 c.args.i2 c.args.i3 c.requires.index c.requires.valid_array c.width_of-width.ensures c.steps_of-steps.ensures).element

pub returns : goal.returns
returns c =
    let h = index_inside c.args.d c.args.i1 c.args.i2 c.args.i3 c.requires.index in
    let t = c.steps_of-steps.result in
    let row = c.spot-row.ensures.0 ∙ ap (λ (p : ℕ). place p t.up2 t.down2 c.args.i2) c.spot-plane.ensures.0 in
    let at = c.spot.ensures.0 ∙ ap (λ (p : ℕ). place p t.up1 t.down1 c.args.i1) row
    ∙ ap (λ (x : Steps). place_of x c.args.i1 c.args.i2 c.args.i3)
    (steps_are c.args.d _ c.requires.valid_array c.width_of-width.result c.width_of-width.ensures t c.steps_of-steps.ensures) in
    record {
      value = at;
      element = ap (λ (x : ℕ). take (array_type c.args.d).width (drop x c.args.src.now)) at
          ∙ sym (stored_place c.args.d _ c.requires.valid_array c.args.src.now c.args.i1 c.args.i2 c.args.i3 h.0 h.1 h.2);
      inside = omega (arith, c.spot.ensures.1, c.width_of-width.ensures);
    }
