-- `columns::row::number_after` meets its contract.
use Rattle.append.proofs.Appending.{within_then}
use Rattle.columns.proofs.row.number_after.Goals as goal

pub returns : goal.returns
returns c = within_then c.append.ensures c.append_natural.ensures
