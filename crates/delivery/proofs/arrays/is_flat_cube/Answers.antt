-- `delivery::arrays::is_flat_cube` meets its contract.
use Rattle.std.proofs.Common.{rules}
use Rattle.delivery.specs.Flat.{flat_cube}
use Rattle.delivery.proofs.arrays.is_flat_cube.Goals as goal

pub returns-then-cube-w : goal.returns-then-cube-w
unfolding flat_cube
returns-then-cube-w c = search rules

pub returns-else-cube-w : goal.returns-else-cube-w
unfolding flat_cube
returns-else-cube-w c = search rules
