-- `frame::dims::array_length` meets its contract.
use Rattle.frame.proofs.Sizes.{two_most, three_most, array_most_lem, array_is}
use native.Mathlib.Omega.{arith}
use Rattle.frame.proofs.dims.array_length.Goals as goal

pub overflow_mul-result : goal.overflow_mul-result
overflow_mul-result c = omega (arith, two_most c.args.s c.requires.0)

pub overflow_mul-result-2 : goal.overflow_mul-result-2
overflow_mul-result-2 c = omega (arith, three_most c.args.s c.requires.0)

pub overflow_mul-result-3 : goal.overflow_mul-result-3
overflow_mul-result-3 c = omega (arith, array_most_lem c.args.s c.requires.0 c.args.w c.requires.1)

pub returns : goal.returns
returns c = array_is c.args.s c.requires.0 c.args.w c.requires.1
