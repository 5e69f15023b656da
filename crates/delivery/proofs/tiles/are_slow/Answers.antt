-- `delivery::tiles::are_slow` meets its contract.
use Rattle.std.proofs.Common.{rules}
use Rattle.delivery.specs.Tiles.{slow_rows}
use Rattle.delivery.proofs.tiles.are_slow.Goals as goal

pub returns-then-slow-eq0 : goal.returns-then-slow-eq0
unfolding slow_rows
returns-then-slow-eq0 c = search rules

pub returns-then-slow-ge4096 : goal.returns-then-slow-ge4096
unfolding slow_rows
returns-then-slow-ge4096 c = search rules

pub returns-else-slow-ge4096 : goal.returns-else-slow-ge4096
unfolding slow_rows
returns-else-slow-ge4096 c = search rules

pub returns-else-fast-lt64 : goal.returns-else-fast-lt64
unfolding slow_rows
returns-else-fast-lt64 c = search rules
