-- `text_length` meets its contract. n, and the length of what is left, make the whole length.
use Rattle.std.proofs.Common.{◌≡◌, ◌+◌, ◌≤◌, false, length, drop}
use Rattle.text.proofs.Escaping.{text_after}
use Rattle.text.proofs.escape.text_length.Given as goal

abbrev pub invariant-loop-b : goal.invariant-loop-b
invariant-loop-b l = (l.n ≤ l.b-index) × (l.n + length (text_after l.pending (drop l.b-index l.value)) ≡ length (text_after false l.value))
