-- `passing::pieces_pass` meets its contract. The answer is that of what the iterator has left.
use Rattle.std.proofs.Common.{◌≡◌, ℕ, Bool}
use Rattle.std.specs.Slice.Iter.{chunks_rest}
use Rattle.text.specs.Tests.{TestsAs}
use Rattle.text.specs.Text.{every}
use Rattle.text.proofs.passing.pieces_pass.Given as goal

abbrev pub invariant-loop-piece : goal.invariant-loop-piece
invariant-loop-piece g l =
    (goal.iterator-loop-piece g).can_next l.piece-iterator × (goal.iterator-loop-piece g).is_finite l.piece-iterator
    × ((p : ℕ → Bool) → TestsAs g.F.Fn l.fn.test p → every p l.l ≡ every p (chunks_rest l.piece-iterator))
