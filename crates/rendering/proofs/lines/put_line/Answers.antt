-- `rendering::lines::put_line` meets its contract.
use native.Mathlib.Omega.{arith}
use Rattle.append.proofs.Appending.{within_then, within_is, within_more}
use Rattle.rendering.proofs.LineLaws.{line_is, line-length}
use Rattle.rendering.proofs.lines.put_line.Goals as goal

pub returns : goal.returns
returns c =
    let all = within_is (line_is c.args.key.now c.args.value.now)
    (within_more (omega arith) (within_then (within_then c.begin_line.ensures c.append.ensures) c.end_line.ensures)) in
    record { appended = all; value = omega (arith, all.appended.next_is, line-length c.args.key.now c.args.value.now) }
