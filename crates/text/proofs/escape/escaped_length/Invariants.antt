-- `escaped_length` meets its contract. n, and the length of what is left, make the whole length.
use Rattle.std.proofs.Common.{◌≡◌, ◌+◌, ◌*◌, ◌≤◌, length, drop}
use Rattle.text.specs.Text.{escaped_body}
use Rattle.text.proofs.escape.escaped_length.Given as goal

abbrev pub invariant-loop-b : goal.invariant-loop-b
invariant-loop-b l = (l.n ≤ 2 * l.b-index) × (l.n + length (escaped_body (drop l.b-index l.text)) ≡ length (escaped_body l.text))
