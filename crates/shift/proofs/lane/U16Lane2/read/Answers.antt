-- `shift::lane::U16Lane2::read` meets its contract.
use Rattle.std.proofs.Common.{eq-eqb, ne_eqb, ◌∙◌, rules}
use Rattle.shift.proofs.Digits.{read_high_2, read_low_2}
use Rattle.shift.proofs.lane.U16Lane2.read.Goals as goal

pub returns-then-order-eq1 : goal.returns-then-order-eq1
returns-then-order-eq1 c =
    c.from_be_bytes.ensures ∙ read_high_2 c.args.b c.args.order (search rules) (eq-eqb c.args.order 1 c.if-order-eq1.true)

pub returns-else-order-eq1 : goal.returns-else-order-eq1
returns-else-order-eq1 c =
    c.from_le_bytes.ensures ∙ read_low_2 c.args.b c.args.order (search rules) (ne_eqb c.args.order 1 c.if-order-eq1.false)
