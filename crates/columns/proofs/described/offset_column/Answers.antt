-- `columns::described::offset_column` meets its contract.
use mathlib.Core.Path.{ap}
use mathlib.Core.List.{◌∷◌}
use lib.IntN.{ℤ}
use mir.Syntax.{w64}
use mir.ValLaws.{to_z-of_z}
use Rattle.text.specs.Decimal.{decimal}
use Rattle.columns.specs.Columns.{marked}
use Rattle.append.proofs.Appending.{within_then, within_is}
use Rattle.columns.proofs.described.offset_column.Goals as goal

pub returns : goal.returns
returns c =
    within_is (ap (λ (z : ℤ). 32 ∷ marked (decimal z) c.args.origin) (to_z-of_z w64 c.args.n c.ranges.n))
    (within_then (within_then c.append.ensures c.append_decimal.ensures) c.append_letter.ensures)
