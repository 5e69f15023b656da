-- `array::deliver::deliver_array` meets its contract: the elements at the steps of the configuration.
use mathlib.Core.Path.{sym, ap, ◌∙◌}
use mathlib.Core.List.{List}
use Prim.Native.Nat.{ℕ, ◌≤◌}
use native.Mathlib.Omega.{arith}
use lib.IntN.{ℤ}
use lib.ListN.{length}
use mir.Syntax.{w64}
use mir.Val.{SFits}
use mir.ValLaws.{to_z-of_z}
use Rattle.scan.specs.Buffer.{over}
use Rattle.raster.specs.Strided.{delivered_at}
use Rattle.description.specs.Shape.{array_type}
use Rattle.array.proofs.DeliveryLaws.{few, steps_fit, steps_hold, room_fits, delivered_made, empty_delivered}
use borrow.Author.Rules.{rules}
use Rattle.array.proofs.deliver.deliver_array.Goals as goal

pub returns-then-d-eq0 : goal.returns-then-d-eq0
returns-then-d-eq0 c =
    ap (λ (l : List ℕ). over l c.args.out.now) (sym (empty_delivered c.args.d c.args.asked c.args.src.now c.if-d-eq0.true))

pub steps_of-steps-requires : goal.steps_of-steps-requires
steps_of-steps-requires c =
    let some1 : 1 ≤ c.args.d.dim1 = omega (arith, c.if-d-eq0.false) in record { le_configuration = (c.requires.valid_array.configured.0, few c.args.d _ c.requires.valid_array); le_dim1 = (some1, c.requires.valid_array.some2, c.requires.valid_array.some3); dim3_bound = steps_fit c.args.d _ c.requires.valid_array c.width_of-width.result c.width_of-width.ensures (omega arith) }

pub deliver-requires : goal.deliver-requires
deliver-requires c =
    let some1 : 1 ≤ c.args.d.dim1 = omega (arith, c.if-d-eq0.false) in record { inside3 = steps_hold c.args.d _ c.requires.valid_array c.width_of-width.result c.width_of-width.ensures c.steps_of-steps.result c.steps_of-steps.ensures some1; dim1_bound = room_fits c.args.d _ c.requires.valid_array (length c.args.out.now) (omega arith) c.requires.d_in_bounds }

pub returns : goal.returns
returns c =
    let offset-fits : SFits w64 c.args.d.offset = search rules in
    c.deliver.ensures
    ∙ ap
    (λ (z : ℤ).
    over (delivered_at (array_type c.args.d) c.args.d.byteorder z c.args.asked c.args.src.now c.steps_of-steps.result c.args.d.dim1 c.args.d.dim2 c.args.d.dim3)
    c.args.out.now)
    (to_z-of_z w64 c.args.d.offset offset-fits)
    ∙ ap (λ (l : List ℕ). over l c.args.out.now)
    (delivered_made c.args.d _ c.requires.valid_array c.width_of-width.result c.width_of-width.ensures c.steps_of-steps.result c.steps_of-steps.ensures
    c.args.asked c.args.src.now)
