-- `listing::lines::detail_columns` meets its contract.
use mathlib.Core.Path.{sym, ◌∙◌}
use native.Mathlib.Omega.{arith}
use Rattle.append.proofs.Appending.{within_is, within_more, within_nothing}
use Rattle.listing.proofs.LineLaws.{no_details}
use Rattle.listing.proofs.RowLaws.{row_answered, row_refused, array_details, details_as}
use Rattle.listing.proofs.lines.detail_columns.Goals as goal

pub array_columns-requires-clause-answered : goal.array_columns-requires-clause-answered
array_columns-requires-clause-answered c = row_answered _ c.requires.row.1 (sym c.in-Ok.is ∙ c.describe_row.ensures)

pub refused_columns-requires : goal.refused_columns-requires
refused_columns-requires c = (omega (arith, row_refused _ c.requires.row.1 (sym c.in-Err.is ∙ c.describe_row.ensures)), omega arith)

pub returns-in-Ok : goal.returns-in-Ok
returns-in-Ok c = within_is (array_details _ c.if-row-ne0.true (sym c.in-Ok.is ∙ c.describe_row.ensures)) c.array_columns.ensures

pub returns-in-Err : goal.returns-in-Err
returns-in-Err c =
    within_is (details_as _ c.if-row-ne0.true (sym c.in-Err.is ∙ c.describe_row.ensures)) (within_more (omega arith) c.refused_columns.ensures)

pub returns-else-row-ne0 : goal.returns-else-row-ne0
returns-else-row-ne0 c = within_is (no_details c.args.row c.if-row-ne0.false _) (within_nothing c.requires.room)
