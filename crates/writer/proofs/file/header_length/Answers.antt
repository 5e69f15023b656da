-- `writer::file::header_length` meets its contract.
use mathlib.Core.Path.{◌≡◌, ap}
use native.Mathlib.Omega.{arith}
use Prim.Native.Nat.{◌+◌}
use lib.ListN.{length}
use Rattle.text.proofs.Escaping.{at_most_twice, quoted_length}
use Rattle.rendering.specs.Render.{padding}
use Rattle.rendering.proofs.Padding.{padding_small}
use Rattle.writer.specs.Front.{titled}
use Rattle.writer.proofs.HeaderLaws.{titled-length, closed-length}
use Rattle.writer.proofs.file.header_length.Goals as goal

pub overflow_add-end : goal.overflow_add-end
overflow_add-end c = omega (arith, at_most_twice c.args.title.now, c.escaped_length.ensures)

pub overflow_add-end-2 : goal.overflow_add-end-2
overflow_add-end-2 c = omega (arith, at_most_twice c.args.title.now, c.escaped_length.ensures)

pub overflow_add-result : goal.overflow_add-result
overflow_add-result c =
    omega (arith, at_most_twice c.args.title.now, c.escaped_length.ensures, c.filling.ensures, padding_small (length c.args.first.now + c.escaped_length.result + 10))

pub returns-clause-value : goal.returns-clause-value
returns-clause-value c =
    let whole = titled c.args.first.now c.args.title.now in
    let same : length c.args.first.now + c.escaped_length.result + 10 ≡ length whole + 4 =
    omega (arith, quoted_length c.args.title.now, c.escaped_length.ensures, titled-length c.args.first.now c.args.title.now) in
    omega (arith, same, c.filling.ensures, ap padding same, closed-length whole)

pub returns-clause-bound : goal.returns-clause-bound
returns-clause-bound c =
    omega (arith, at_most_twice c.args.title.now, c.escaped_length.ensures, c.filling.ensures, padding_small (length c.args.first.now + c.escaped_length.result + 10))
