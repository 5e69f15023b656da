-- `columns::row::identity_column` meets its contract.
use Rattle.append.proofs.Appending.{within_then}
use Rattle.columns.proofs.row.identity_column.Goals as goal

pub returns : goal.returns
returns c = within_then c.append.ensures c.append_name.ensures
