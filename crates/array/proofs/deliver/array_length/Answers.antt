-- `array::deliver::array_length` meets its contract.
use native.Mathlib.Omega.{arith}
use Rattle.array.proofs.DeliveryLaws.{length_made, length_fits}
use Rattle.array.proofs.deliver.array_length.Goals as goal

pub overflow_mul-result : goal.overflow_mul-result
overflow_mul-result c =
    omega (arith, length_fits c.args.d _ c.requires c.width_of.result c.width_of.ensures (omega arith))

pub overflow_mul-result-2 : goal.overflow_mul-result-2
overflow_mul-result-2 c =
    omega (arith, length_fits c.args.d _ c.requires c.width_of.result c.width_of.ensures (omega arith))

pub overflow_mul-result-3 : goal.overflow_mul-result-3
overflow_mul-result-3 c =
    omega (arith, length_fits c.args.d _ c.requires c.width_of.result c.width_of.ensures (omega arith))

pub returns : goal.returns
returns c =
    length_made c.args.d _ c.requires c.width_of.result c.width_of.ensures
