-- `header::check::check_with` meets its contract. The invariant: whether the statements passed are short, whether their keys are
-- distinct, and that the table contains these.
use Rattle.std.proofs.Common.{◌≡◌}
use Rattle.header.proofs.Walk.{Passed}
use Rattle.header.proofs.check.check_with.Given as goal

abbrev pub invariant-loop-next : goal.invariant-loop-next
invariant-loop-next l = record {
  bytes : l.next-iterator.s.now ≡ l.s;
  passed : Passed l.s l.from l.slots l.table l.short l.distinct l.next-iterator.at;
}
