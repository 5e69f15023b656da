-- `rendering::lines::type_line` meets its contract.
use native.Mathlib.Omega.{arith}
use Rattle.append.proofs.Appending.{within_then, within_is, within_more}
use Rattle.rendering.proofs.LineLaws.{line_is}
use Rattle.rendering.proofs.lines.type_line.Goals as goal

pub returns : goal.returns
returns c =
    within_is (line_is _ _)
    (within_more (omega arith) (within_then (within_then c.begin_line.ensures c.append_type.ensures) c.end_line.ensures))
