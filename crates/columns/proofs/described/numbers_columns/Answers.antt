-- `columns::described::numbers_columns` meets its contract.
use mathlib.Core.Path.{ap}
use mathlib.Core.List.{◌∷◌}
use lib.IntN.{ℤ}
use mir.Syntax.{w64}
use mir.Val.{SFits}
use mir.ValLaws.{to_z-of_z}
use borrow.Author.Rules.{rules}
use Rattle.text.specs.Decimal.{decimal}
use Rattle.columns.specs.Columns.{marked}
use Rattle.append.proofs.Appending.{within_then, within_is}
use Rattle.columns.proofs.ColumnLaws.{after_three}
use Rattle.columns.proofs.described.numbers_columns.Goals as goal

pub returns : goal.returns
returns c =
    let offset-fits : SFits w64 c.args.d.offset = search rules in
    let last = within_is (ap (λ (z : ℤ). 32 ∷ marked (decimal z) c.args.d.origins.offset) (to_z-of_z w64 _ offset-fits)) c.offset_column.ensures in
    within_is (after_three 32 _ _ _) (within_then (within_then c.marked_number.ensures c.marked_number-2.ensures) last)
