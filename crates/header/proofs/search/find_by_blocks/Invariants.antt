-- `header::search::find_by_blocks` meets its contract: in what is passed over no byte passes the test.
use Rattle.std.proofs.Common.{◌≡◌, ℕ, Bool, length, ◌-◌}
use Rattle.scan.specs.Search.{first_from}
use Rattle.text.specs.Tests.{TestsAs}
use Rattle.header.proofs.search.find_by_blocks.Given as goal

abbrev pub invariant-loop-i : goal.invariant-loop-i
invariant-loop-i g l = (p : ℕ → Bool) → TestsAs g.F.Fn l.fn.test p → first_from p l.s l.from ≡ first_from p l.s l.i

abbrev pub decreases-loop-i : goal.decreases-loop-i
decreases-loop-i g l = length l.s - l.i
