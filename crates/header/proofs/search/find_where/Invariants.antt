-- `header::search::find_where` meets its contract. The invariant: the search from where the loop stands answers what the whole does.
use Rattle.std.proofs.Common.{◌≡◌, ℕ, Bool}
use Rattle.scan.specs.Search.{first_from}
use Rattle.text.specs.Tests.{TestsAs}
use Rattle.header.proofs.search.find_where.Given as goal

abbrev pub invariant-loop-i : goal.invariant-loop-i
invariant-loop-i g l = (p : ℕ → Bool) → TestsAs g.F.Fn l.fn.test p → first_from p l.s l.from ≡ first_from p l.s l.i
