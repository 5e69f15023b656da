-- `columns::row::error_columns` meets its contract.
use Rattle.append.proofs.Appending.{within_then, within_is}
use Rattle.columns.proofs.ColumnLaws.{error_is}
use Rattle.columns.proofs.row.error_columns.Goals as goal

pub returns : goal.returns
returns c = within_is (error_is c.args.e) (within_then c.number_after.ensures c.number_after-2.ensures)
