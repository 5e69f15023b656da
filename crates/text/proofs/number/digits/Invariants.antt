-- `text::number::digits` meets its contract. The loop keeps the answer: what the digits left make of n is what all of them make of 0.
use Rattle.std.proofs.Common.{◌≡◌, ◌≤◌, drop}
use Rattle.text.specs.Number.{digits_from, natural}
use Rattle.text.proofs.Digits.{capped}
use Rattle.text.proofs.number.digits.Given as goal

abbrev pub invariant-loop-b : goal.invariant-loop-b
invariant-loop-b l = (l.n ≤ 9223372036854775809) × (capped (digits_from l.n (drop l.b-index l.l)) ≡ capped (natural l.l))
