-- `header::search::none_passes` meets its contract. The invariant: the answer is that of the bytes passed, and that of those left.
use Rattle.std.proofs.Common.{◌≡◌, ℕ, Bool, not, ◌&&◌, drop}
use Rattle.text.specs.Text.{every}
use Rattle.text.specs.Tests.{TestsAs}
use Rattle.header.proofs.search.none_passes.Given as goal

abbrev pub invariant-loop-b : goal.invariant-loop-b
invariant-loop-b g l =
    (p : ℕ → Bool) → TestsAs g.F.Fn l.fn.test p
    → every (λ b. not (p b)) l.l ≡ (l.none && every (λ b. not (p b)) (drop l.b-index l.l))
