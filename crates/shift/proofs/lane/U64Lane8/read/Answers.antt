-- `shift::lane::U64Lane8::read` meets its contract: the number, and with it what stands at the high end.
use Rattle.std.proofs.Common.{eq-eqb, ne_eqb, ◌∙◌, rules}
use Rattle.shift.proofs.Digits.{read_high_8, read_low_8}
use Rattle.shift.proofs.HighEnd.{aligned_8}
use Rattle.shift.proofs.lane.U64Lane8.read.Goals as goal

pub returns-then-order-eq1 : goal.returns-then-order-eq1
returns-then-order-eq1 c =
    let e = c.from_be_bytes.ensures ∙ read_high_8 c.args.b c.args.order (search rules) (eq-eqb c.args.order 1 c.if-order-eq1.true) in
    record { value = e; aligned = e ∙ aligned_8 c.args.order c.args.b (λ i. search rules) (search rules) }

pub returns-else-order-eq1 : goal.returns-else-order-eq1
returns-else-order-eq1 c =
    let e = c.from_le_bytes.ensures ∙ read_low_8 c.args.b c.args.order (search rules) (ne_eqb c.args.order 1 c.if-order-eq1.false) in
    record { value = e; aligned = e ∙ aligned_8 c.args.order c.args.b (λ i. search rules) (search rules) }
