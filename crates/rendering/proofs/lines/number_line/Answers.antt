-- `rendering::lines::number_line` meets its contract.
use native.Mathlib.Omega.{arith}
use Rattle.append.proofs.Appending.{within_then, within_is, within_more}
use Rattle.rendering.proofs.LineLaws.{line_is}
use Rattle.rendering.proofs.lines.number_line.Goals as goal

pub returns : goal.returns
returns c =
    within_is (line_is c.args.key.now _)
    (within_more (omega arith) (within_then (within_then c.begin_line.ensures c.append_natural.ensures) c.end_line.ensures))
