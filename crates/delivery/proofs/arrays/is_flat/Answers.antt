-- `delivery::arrays::is_flat` meets its contract.
use Rattle.std.proofs.Common.{rules}
use Rattle.delivery.specs.Flat.{flat}
use Rattle.delivery.proofs.arrays.is_flat.Goals as goal

pub returns-then-plane-eq0 : goal.returns-then-plane-eq0
unfolding flat
returns-then-plane-eq0 c = search rules

pub returns-else-plane-eq0 : goal.returns-else-plane-eq0
unfolding flat
returns-else-plane-eq0 c = search rules
