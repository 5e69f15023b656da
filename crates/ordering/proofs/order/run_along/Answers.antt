-- `ordering::order::run_along` meets its contract.
use native.Mathlib.Omega.{arith}
use Rattle.frame.specs.Shape.{shape_dims}
use Rattle.ordering.proofs.AxisLaws.{back_fits, forward_run, backward_run}
use Rattle.ordering.proofs.order.run_along.Goals as goal

pub overflow_sub-result : goal.overflow_sub-result
overflow_sub-result c =
    let fits = back_fits c.args.s c.requires.small.0 c.args.w c.args.d.index _ _ c.requires.small.1 c.requires.le_index.0 c.requires.le_index.1 c.dim_at-dim.ensures c.stride_at-stride.ensures in
    omega (arith, fits.0)

pub overflow_mul-result : goal.overflow_mul-result
overflow_mul-result c =
    let fits = back_fits c.args.s c.requires.small.0 c.args.w c.args.d.index _ _ c.requires.small.1 c.requires.le_index.0 c.requires.le_index.1 c.dim_at-dim.ensures c.stride_at-stride.ensures in
    omega (arith, fits.1)

pub returns-then-d : goal.returns-then-d
returns-then-d c = backward_run (shape_dims c.args.s) c.args.w c.args.d.index c.dim_at-dim.ensures c.stride_at-stride.ensures c.if-d.true

pub returns-else-d : goal.returns-else-d
returns-else-d c = forward_run (shape_dims c.args.s) c.args.w c.args.d.index c.dim_at-dim.ensures c.stride_at-stride.ensures c.if-d.false
