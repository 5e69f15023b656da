-- `array::read::deliver_described` meets its contract.
use mathlib.Core.Path.{sym, ◌∙◌}
use native.Mathlib.Omega.{arith}
use Rattle.text.proofs.Buffers.{fits, short, of_equal, refuses}
use Rattle.array.proofs.DeliveryLaws.{length-delivered}
use Rattle.array.proofs.ReadLaws.{bad_order, good_order}
use Rattle.array.proofs.read.deliver_described.Goals as goal

pub returns-then-not-is_order : goal.returns-then-not-is_order
returns-then-not-is_order c =
    let both = refuses 24 _ _ c.failure.ensures
    (bad_order c.args.d c.args.src.now c.args.asked (sym c.is_order.ensures ∙ c.if-not-is_order.true)) in record { result_value = both.0; out_after = both.1 }

pub returns-then-out-n : goal.returns-then-out-n
returns-then-out-n c =
    let long = c.array_length-n.ensures ∙ sym (length-delivered c.args.d _ c.requires c.args.asked c.args.src.now) in
    let room = short _ _ long c.if-out-n.true in
    let both = of_equal _ _ _ (good_order c.args.d c.args.src.now c.args.asked (sym c.is_order.ensures ∙ c.if-not-is_order.false))
    (c.failure-then-out-n.ensures ∙ room.0, room.1) in record { result_value = both.0; out_after = both.1 }

pub deliver_array-requires : goal.deliver_array-requires
deliver_array-requires c =
    record { valid_array = c.requires; d_in_bounds = omega (arith, c.array_length-n.ensures, c.if-out-n.false) }

pub returns : goal.returns
returns c =
    let long = c.array_length-n.ensures ∙ sym (length-delivered c.args.d _ c.requires c.args.asked c.args.src.now) in
    let both = of_equal _ _ _ (good_order c.args.d c.args.src.now c.args.asked (sym c.is_order.ensures ∙ c.if-not-is_order.false))
    (fits _ _ long c.if-out-n.false c.deliver_array.ensures) in record { result_value = both.0; out_after = both.1 }
