-- `columns::described::words_columns` meets its contract.
use Rattle.append.proofs.Appending.{within_then, within_is}
use Rattle.columns.proofs.ColumnLaws.{after_two}
use Rattle.columns.proofs.described.words_columns.Goals as goal

pub returns : goal.returns
returns c = within_is (after_two 32 _ _) (within_then c.type_column.ensures c.order_column.ensures)
