use Rattle.std.proofs.Common.{◌+◌, ◌<◌, ◌∙◌, ap, length, arith}
use Rattle.std.proofs.lemmas.Bool.Decides.{nat_tests}
use Rattle.text.specs.Number.{digits_from}
use Rattle.scaling.specs.Capped.{capped}
use Rattle.scaling.proofs.DigitLaws.{no_digit, kept_le, second, first_bad, parts_natural}
use Rattle.scaling.proofs.digits.coefficient.Goals as goal
use Rattle.scaling.proofs.digits.coefficient.Goals.{else-is_empty-via-then-is_empty+else-is_empty-2, else-is_empty-via-else-is_empty}

pub returns-then-is_empty-2 : goal.returns-then-is_empty-2
returns-then-is_empty-2 c = no_digit c.args.whole.now c.args.fraction.now (grind (arith, nat_tests)) (grind (arith, nat_tests))

pub returns-in_err-further : goal.returns-in_err-further
returns-in_err-further c =
    let whole = c.args.whole.now in
    let fraction = c.args.fraction.now in
    let some : 0 < length whole + length fraction = elim c.else-is_empty.branch [ else-is_empty-via-then-is_empty+else-is_empty-2 w ↦ grind (arith, nat_tests) | else-is_empty-via-else-is_empty w ↦ grind (arith, nat_tests) ] in
    c.from_residual.ensures ∙ first_bad (digits_from 0 whole) fraction c.in_err-further.ensures ∙ ap capped (parts_natural whole fraction some)

pub further-requires-2 : goal.further-requires-2
further-requires-2 c = kept_le _ (digits_from 0 c.args.whole.now) c.in_ok-further.ensures

pub returns : goal.returns
returns c =
    let whole = c.args.whole.now in
    let fraction = c.args.fraction.now in
    let some : 0 < length whole + length fraction = elim c.else-is_empty.branch [ else-is_empty-via-then-is_empty+else-is_empty-2 w ↦ grind (arith, nat_tests) | else-is_empty-via-else-is_empty w ↦ grind (arith, nat_tests) ] in
    c.further-2.ensures ∙ second _ (digits_from 0 whole) fraction c.in_ok-further.ensures ∙ ap capped (parts_natural whole fraction some)
