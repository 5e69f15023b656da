-- `ordering::order::walk_of` meets its contract.
use native.Mathlib.Omega.{arith}
use Rattle.ordering.proofs.Orders.{order_first, order_second, order_third}
use Rattle.ordering.proofs.AxisLaws.{ran_at, starts_fit, walk_is}
use Rattle.frame.specs.Shape.{shape_dims}
use Rattle.ordering.proofs.order.walk_of.Goals as goal

pub run_along-a-requires : goal.run_along-a-requires
run_along-a-requires c = record { le_index = (order_first c.args.number c.requires.le_number.0 c.requires.le_number.1 c.order_of-order.result c.order_of-order.ensures).index; small = c.requires.small }

pub run_along-b-requires : goal.run_along-b-requires
run_along-b-requires c = record { le_index = (order_second c.args.number c.requires.le_number.0 c.requires.le_number.1 c.order_of-order.result c.order_of-order.ensures).index; small = c.requires.small }

pub run_along-c-requires : goal.run_along-c-requires
run_along-c-requires c = record { le_index = (order_third c.args.number c.requires.le_number.0 c.requires.le_number.1 c.order_of-order.result c.order_of-order.ensures).index; small = c.requires.small }

pub overflow_add-steps : goal.overflow_add-steps
overflow_add-steps c =
    let dims = shape_dims c.args.s in
    let r1 = ran_at dims c.args.w (order_first c.args.number c.requires.le_number.0 c.requires.le_number.1 c.order_of-order.result c.order_of-order.ensures).axis c.run_along-a.ensures in
    let r2 = ran_at dims c.args.w (order_second c.args.number c.requires.le_number.0 c.requires.le_number.1 c.order_of-order.result c.order_of-order.ensures).axis c.run_along-b.ensures in
    let r3 = ran_at dims c.args.w (order_third c.args.number c.requires.le_number.0 c.requires.le_number.1 c.order_of-order.result c.order_of-order.ensures).axis c.run_along-c.ensures in
    omega (arith, starts_fit c.args.s c.args.w c.args.number c.requires.small.0 c.requires.small.1 c.requires.le_number.0 c.requires.le_number.1, r1.1.1, r2.1.1, r3.1.1)

pub overflow_add-steps-2 : goal.overflow_add-steps-2
overflow_add-steps-2 c =
    let dims = shape_dims c.args.s in
    let r1 = ran_at dims c.args.w (order_first c.args.number c.requires.le_number.0 c.requires.le_number.1 c.order_of-order.result c.order_of-order.ensures).axis c.run_along-a.ensures in
    let r2 = ran_at dims c.args.w (order_second c.args.number c.requires.le_number.0 c.requires.le_number.1 c.order_of-order.result c.order_of-order.ensures).axis c.run_along-b.ensures in
    let r3 = ran_at dims c.args.w (order_third c.args.number c.requires.le_number.0 c.requires.le_number.1 c.order_of-order.result c.order_of-order.ensures).axis c.run_along-c.ensures in
    omega (arith, starts_fit c.args.s c.args.w c.args.number c.requires.small.0 c.requires.small.1 c.requires.le_number.0 c.requires.le_number.1, r1.1.1, r2.1.1, r3.1.1)

pub returns : goal.returns
returns c =
    let dims = shape_dims c.args.s in
    let r1 = ran_at dims c.args.w (order_first c.args.number c.requires.le_number.0 c.requires.le_number.1 c.order_of-order.result c.order_of-order.ensures).axis c.run_along-a.ensures in
    let r2 = ran_at dims c.args.w (order_second c.args.number c.requires.le_number.0 c.requires.le_number.1 c.order_of-order.result c.order_of-order.ensures).axis c.run_along-b.ensures in
    let r3 = ran_at dims c.args.w (order_third c.args.number c.requires.le_number.0 c.requires.le_number.1 c.order_of-order.result c.order_of-order.ensures).axis c.run_along-c.ensures in
    record { steps_value = walk_is c.args.s c.args.w c.args.number c.requires.small.0 c.requires.small.1 c.requires.le_number.0 c.requires.le_number.1 r1 r2 r3; dim1_value = (r1.0.0, r2.0.0); dim3_value = r3.0.0 }
