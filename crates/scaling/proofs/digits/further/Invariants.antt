-- `further` meets its contract. The loop keeps the answer: what the digits left make of n is what all of them make of v.
use Rattle.std.proofs.Common.{◌≡◌, ◌+◌, ◌≤◌, drop}
use Rattle.text.specs.Number.{digits_from}
use Rattle.scaling.specs.Capped.{capped}
use Rattle.scaling.specs.Limits.{coefficient_limit}
use Rattle.scaling.proofs.digits.further.Given as goal

abbrev pub invariant-loop-b : goal.invariant-loop-b
invariant-loop-b l = (l.n ≤ coefficient_limit + 1) × (capped (digits_from l.n (drop l.b-index l.l)) ≡ capped (digits_from l.v l.l))
