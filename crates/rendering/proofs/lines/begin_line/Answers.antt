-- `rendering::lines::begin_line` meets its contract.
use Rattle.append.proofs.Appending.{within_then}
use Rattle.rendering.proofs.lines.begin_line.Goals as goal

pub returns : goal.returns
returns c = within_then c.append.ensures c.append-2.ensures
