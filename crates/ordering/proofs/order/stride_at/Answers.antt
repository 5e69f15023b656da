-- `ordering::order::stride_at` meets its contract.
use native.Mathlib.Omega.{arith}
use Rattle.frame.proofs.Sizes.{row_most_lem, first_two_most, plane_most_lem}
use Rattle.ordering.proofs.AxisLaws.{stride_first, stride_second, stride_third}
use Rattle.ordering.proofs.order.stride_at.Goals as goal

pub returns-in-1 : goal.returns-in-1
returns-in-1 c = stride_first c.args.s c.requires.small.0 c.args.w c.requires.small.1 _ c.in-1.is

pub overflow_mul-result : goal.overflow_mul-result
overflow_mul-result c = omega (arith, row_most_lem c.args.s c.requires.small.0 c.args.w c.requires.small.1)

pub returns-in-2 : goal.returns-in-2
returns-in-2 c = stride_second c.args.s c.requires.small.0 c.args.w c.requires.small.1 _ c.in-2.is

pub overflow_mul-result-in_default : goal.overflow_mul-result-in_default
overflow_mul-result-in_default c = omega (arith, first_two_most c.args.s c.requires.small.0)

pub overflow_mul-result-in_default-2 : goal.overflow_mul-result-in_default-2
overflow_mul-result-in_default-2 c = omega (arith, plane_most_lem c.args.s c.requires.small.0 c.args.w c.requires.small.1)

pub returns-in_default : goal.returns-in_default
returns-in_default c = stride_third c.args.s c.requires.small.0 c.args.w c.requires.small.1 c.args.index (omega arith)
