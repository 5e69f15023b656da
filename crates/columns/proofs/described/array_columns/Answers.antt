-- `columns::described::array_columns` meets its contract.
use Rattle.append.proofs.Appending.{within_then, within_is}
use Rattle.columns.proofs.ColumnLaws.{array_is}
use Rattle.columns.proofs.described.array_columns.Goals as goal

pub returns : goal.returns
returns c =
    within_is (array_is c.args.d)
    (within_then (within_then (within_then c.words_columns.ensures c.dims_column.ensures) c.append_letter.ensures) c.numbers_columns.ensures)
