-- `ordering::order::dim_at` meets its contract.
use native.Mathlib.Omega.{arith}
use Rattle.ordering.proofs.AxisLaws.{index_dim}
use Rattle.ordering.proofs.order.dim_at.Goals as goal

pub returns-in-1 : goal.returns-in-1
returns-in-1 c = index_dim c.args.s c.args.index 1 c.in-1.is

pub returns-in-2 : goal.returns-in-2
returns-in-2 c = index_dim c.args.s c.args.index 2 c.in-2.is

pub returns-in_default : goal.returns-in_default
returns-in_default c = index_dim c.args.s c.args.index 3 (omega arith)
