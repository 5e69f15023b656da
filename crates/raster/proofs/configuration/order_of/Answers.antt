-- `raster::configuration::order_of` meets its contract: index 2 and then index 3 are placed.
use Prim.Native.Nat.{◌-◌, ◌/◌, ◌%◌}
use native.Mathlib.Omega.{arith}
use Rattle.raster.proofs.Configurations.{indices_few, order_made}
use Rattle.raster.proofs.configuration.order_of.Goals as goal

pub overflow_sub-first : goal.overflow_sub-first
overflow_sub-first c = let m = c.args.configuration - 1 in omega (arith, indices_few (m % 8 / 2 / 2) (m / 8 / 2))

pub overflow_sub-first-2 : goal.overflow_sub-first-2
overflow_sub-first-2 c = let m = c.args.configuration - 1 in omega (arith, indices_few (m % 8 / 2 / 2) (m / 8 / 2))

pub returns : goal.returns
returns c =
    order_made c.args.configuration c.first_index-first.result c.last_index-last.result _ _ _ c.requires.1
    c.first_index-first.ensures c.last_index-last.ensures c.direction_of.ensures
    c.direction_of-2.ensures c.direction_of-3.ensures
