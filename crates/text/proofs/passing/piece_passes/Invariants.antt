-- `passing::piece_passes` meets its contract. The answer is that of the bytes passed, and that of those left.
use Rattle.std.proofs.Common.{◌≡◌, ℕ, Bool, ◌&&◌, drop}
use Rattle.text.specs.Tests.{TestsAs}
use Rattle.text.specs.Text.{every}
use Rattle.text.proofs.passing.piece_passes.Given as goal

abbrev pub invariant-loop-b : goal.invariant-loop-b
invariant-loop-b g l = (p : ℕ → Bool) → TestsAs g.F.Fn l.fn.test p → every p l.piece ≡ (l.all && every p (drop l.b-index l.piece))
