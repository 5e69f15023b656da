-- `header::repeat::insert` meets its contract. The invariant: the table is as it was, and no slot from `slot` up to `i` is
-- empty or holds `h`.
use Rattle.std.proofs.Common.{◌≡◌}
use Rattle.header.proofs.HashLaws.{Probed}
use Rattle.header.proofs.repeat.insert.Given as goal

abbrev pub invariant-loop-i : goal.invariant-loop-i
invariant-loop-i l = record { same : l.table ≡ l.initial.table; probed : Probed l.table l.slot l.h l.i }
