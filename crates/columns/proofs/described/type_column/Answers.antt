-- `columns::described::type_column` meets its contract.
use Rattle.append.proofs.Appending.{within_then}
use Rattle.columns.proofs.described.type_column.Goals as goal

pub returns : goal.returns
returns c = within_then (within_then c.append.ensures c.append_type.ensures) c.append_letter.ensures
