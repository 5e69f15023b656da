-- `conversion::conversion::conversion_of` meets its contract.
use mathlib.Core.Path.{sym, subst}
use mathlib.Core.Logic.{inl, inr}
use lib.Dec.{eqb}
use lib.IntN.{ℤ}
use mir.Syntax.{w64}
use mir.ValLaws.{to_z-of_z}
use Rattle.raster.specs.Strided.{Width}
use Rattle.raster.specs.Types.{type_of}
use Rattle.raster.proofs.Tables.{type_width}
use Rattle.shift.specs.Shifting.{integer, Shifts}
use Rattle.conversion.proofs.Conversions.{converts_added, converts_reversed, converts_kept}
use Rattle.conversion.proofs.conversion.conversion_of.Goals as goal
use Rattle.conversion.proofs.conversion.conversion_of.Goals.{else-width-gt1-via-then-width-gt1+else-orders_differ, else-width-gt1-via-else-width-gt1}

pub shift_of-shift-requires : goal.shift_of-shift-requires
shift_of-shift-requires c = subst Width (sym c.width_of-width.ensures) (type_width c.args.datatype)

pub returns-then-offset-ne0 : goal.returns-then-offset-ne0
returns-then-offset-ne0 c =
    converts_added (type_of c.args.datatype) c.args.order c.args.asked _ _ c.args.offset _ c.width_of-width.ensures (type_width c.args.datatype)
    c.class_of-class.ensures c.if-class-ne2.true
    (subst (λ (z : ℤ). Shifts (integer (eqb c.class_of-class.result 1)) c.width_of-width.result z c.shift_of-shift.result)
    (to_z-of_z w64 c.args.offset c.ranges.offset) c.shift_of-shift.ensures)

pub returns-then-orders_differ : goal.returns-then-orders_differ
returns-then-orders_differ c =
    converts_reversed (type_of c.args.datatype) c.args.order c.args.asked _ _ c.args.offset (record { inverted = 0; high = 0; delta = 0 }) c.width_of-width.ensures (type_width c.args.datatype)
    c.class_of-class.ensures c.ranges.offset c.else-class-ne2.either c.if-orders_differ.ensures

pub returns-else-width-gt1 : goal.returns-else-width-gt1
returns-else-width-gt1 c =
    converts_kept (type_of c.args.datatype) c.args.order c.args.asked _ _ c.args.offset (record { inverted = 0; high = 0; delta = 0 }) c.width_of-width.ensures (type_width c.args.datatype)
    c.class_of-class.ensures c.ranges.offset c.else-class-ne2.either
    (elim c.else-width-gt1.branch [
      | else-width-gt1-via-then-width-gt1+else-orders_differ v ↦ inl (v.if-width-gt1.true, v.if-orders_differ.ensures)
      | else-width-gt1-via-else-width-gt1 v ↦ inr v.if-width-gt1.false
    ])
