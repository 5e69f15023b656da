-- `shift::lane::U64Lane8::written` meets its contract: the bytes, and with them what comes back from the high end.
use Rattle.std.proofs.Common.{eq-eqb, ne_eqb, ◌∙◌}
use Rattle.shift.proofs.Digits.{written_high, written_low}
use Rattle.shift.proofs.HighEnd.{restored_8}
use Rattle.shift.proofs.lane.U64Lane8.written.Goals as goal

pub returns-then-asked-eq1 : goal.returns-then-asked-eq1
returns-then-asked-eq1 c =
    let e = c.to_be_bytes.ensures ∙ written_high 8 c.args.self c.args.asked (eq-eqb c.args.asked 1 c.if-asked-eq1.true) in
    record { value = e; restored = e ∙ restored_8 c.args.asked c.args.self }

pub returns-else-asked-eq1 : goal.returns-else-asked-eq1
returns-else-asked-eq1 c =
    let e = c.to_le_bytes.ensures ∙ written_low 8 c.args.self c.args.asked (ne_eqb c.args.asked 1 c.if-asked-eq1.false) in
    record { value = e; restored = e ∙ restored_8 c.args.asked c.args.self }
