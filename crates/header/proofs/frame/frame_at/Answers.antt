-- `header::frame::frame_at` meets its contract: its places lie in order.
use Rattle.std.proofs.Common.{sym, ◌∙◌, arith}
use Rattle.header.specs.Frame.{ends_body}
use Rattle.header.proofs.FrameSteps.{opening_near, end_inside, closing_near}
use Rattle.header.proofs.frame.frame_at.Goals as goal

pub bounds-s-right : goal.bounds-s-right
bounds-s-right c =
    let end = sym (c.find_by_blocks.ensures ends_body (λ b r q. q)) ∙ c.in_ok-right.ensures.ok_part in
    (end_inside _ _ end).1

pub overflow_sub-result : goal.overflow_sub-result
overflow_sub-result c =
    let opening = sym c.opening_at.ensures ∙ c.in_ok-left.ensures.ok_part in
    let end = sym (c.find_by_blocks.ensures ends_body (λ b r q. q)) ∙ c.in_ok-right.ensures.ok_part in
    let closing = sym c.closing_at.ensures ∙ c.in_ok-next.ensures.ok_part in
    omega (arith, opening_near _ _ opening, end_inside _ _ end, closing_near _ _ closing)
