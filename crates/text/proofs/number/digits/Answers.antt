use Rattle.std.proofs.Common.{◌≡◌, ◌+◌, ◌-◌, ◌*◌, ◌∙◌, ap, sym, get_or, drop, arith, rules}
use Rattle.std.proofs.lemmas.Bool.Decides.{nat_tests}
use Rattle.text.specs.Number.{digit, digits_from}
use Rattle.text.proofs.Digits.{capped, alike, begun, empty, step, no_step, full, ended, none_capped, some_capped}
use Rattle.text.proofs.number.digits.Goals as goal
use Rattle.text.proofs.number.digits.Goals.{then-not-is_ascii_digit-via-then-not-is_ascii_digit, then-not-is_ascii_digit-via-else-not-is_ascii_digit+then-n}

pub returns-then-is_empty : goal.returns-then-is_empty
returns-then-is_empty c = alike _ (none_capped (empty c.args.l.now (grind (arith, nat_tests))))

pub loop-b-init : goal.loop-b-init
loop-b-init c = (omega arith, ap capped (begun c.args.l.now (grind (arith, nat_tests))))

pub returns-then-not-is_ascii_digit : goal.returns-then-not-is_ascii_digit
unfolding digit
returns-then-not-is_ascii_digit c =
    elim c.then-not-is_ascii_digit.branch [
      | then-not-is_ascii_digit-via-then-not-is_ascii_digit w ↦ alike _ (none_capped (no_step _ _ c.loop-b.n c.loop-b-test.true (search rules)) ∙ c.loop-b.invariant.1)
      | then-not-is_ascii_digit-via-else-not-is_ascii_digit+then-n w ↦ alike _ (sym (full _ _ c.loop-b.n c.loop-b-test.true (search rules) w.if-n.true) ∙ c.loop-b.invariant.1)
    ]

pub loop-b-preserved : goal.loop-b-preserved
unfolding digit
loop-b-preserved c =
    let l = c.args.l.now in
    let e : digits_from c.loop-b.n (drop c.loop-b.b-index l) ≡ digits_from (c.loop-b.n * 10 + (get_or l c.loop-b.b-index 0 - 48)) (drop (c.loop-b.b-index + 1) l) = step _ _ c.loop-b.n c.loop-b-test.true (search rules) in
    (grind arith, rw c.from.ensures (sym (ap capped e) ∙ c.loop-b.invariant.1))

pub returns : goal.returns
returns c =
    alike _ (c.then_some.ensures ∙ some_capped c.loop-b.n (ended c.args.l.now _ c.loop-b.n c.loop-b-test.false) ∙ c.loop-b.invariant.1)
