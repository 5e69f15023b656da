use Rattle.std.proofs.Common.{◌∙◌, arith, rules}
use Rattle.text.specs.Number.{digit}
use Rattle.scaling.proofs.DigitLaws.{cap_le, turn, stopped, all_read}
use Rattle.scaling.proofs.digits.further.Goals as goal

pub returns-then-not-is_ascii_digit : goal.returns-then-not-is_ascii_digit
unfolding digit
returns-then-not-is_ascii_digit c = stopped _ _ c.loop-b.n c.loop-b-test.true (search rules) ∙ c.loop-b.invariant.1

pub loop-b-preserved : goal.loop-b-preserved
unfolding digit
loop-b-preserved c =
    (omega (arith, cap_le), turn _ _ c.loop-b.n c.loop-b-test.true _ (search rules) (rw c.from.ensures at c.capped_at-n.ensures) ∙ c.loop-b.invariant.1)

pub returns : goal.returns
returns c = all_read _ _ c.loop-b.n c.loop-b-test.false c.loop-b.invariant.0 ∙ c.loop-b.invariant.1
