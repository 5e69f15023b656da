-- `columns::described::marked_number` meets its contract.
use Rattle.append.proofs.Appending.{within_then}
use Rattle.columns.proofs.described.marked_number.Goals as goal

pub returns : goal.returns
returns c = within_then c.number_after.ensures c.append_letter.ensures
