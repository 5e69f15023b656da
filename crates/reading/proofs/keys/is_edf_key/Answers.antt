use Rattle.std.specs.Prelude.{Some}
use mathlib.Core.Path.{◌≡◌, sym, ◌∙◌}
use native.Mathlib.Omega.{arith}
use Rattle.scan.specs.Search.{first_from}
use Rattle.text.specs.Whitespace.{visible}
use Rattle.text.proofs.KeySteps.{visible_inside}
use Rattle.reading.proofs.EdfKeys.{edf_start, edf_end, edf_none, edf_other, edf_next}
use Rattle.reading.proofs.keys.is_edf_key.Goals as goal

pub loop-letter-init : goal.loop-letter-init
loop-letter-init c = edf_start _

pub returns-in_default : goal.returns-in_default
returns-in_default c = sym (c.loop-letter.invariant ∙ edf_none _ _ _ c.loop-letter-test.true (sym c.find_visible.ensures ∙ c.in_default.is))

pub bounds-k-x : goal.bounds-k-x
bounds-k-x c =
    let found : first_from visible c.args.k.now c.loop-letter.at ≡ Some c.in-Some.x = sym c.find_visible.ensures ∙ c.in-Some.is in
    (visible_inside _ _ _ found).1

pub returns-then-fold_byte-letter : goal.returns-then-fold_byte-letter
returns-then-fold_byte-letter c =
    let found : first_from visible c.args.k.now c.loop-letter.at ≡ Some c.in-Some.x = sym c.find_visible.ensures ∙ c.in-Some.is in
    sym (c.loop-letter.invariant
    ∙ edf_other _ _ _ c.loop-letter-test.true found (λ q. c.if-fold_byte-letter.true (c.fold_byte.ensures ∙ q)))

pub overflow_add-at : goal.overflow_add-at
overflow_add-at c =
    let found : first_from visible c.args.k.now c.loop-letter.at ≡ Some c.in-Some.x = sym c.find_visible.ensures ∙ c.in-Some.is in
    omega (arith, visible_inside _ _ _ found)

pub loop-letter-preserved : goal.loop-letter-preserved
loop-letter-preserved c =
    let found : first_from visible c.args.k.now c.loop-letter.at ≡ Some c.in-Some.x = sym c.find_visible.ensures ∙ c.in-Some.is in
    c.loop-letter.invariant
    ∙ edf_next _ _ _ c.loop-letter-test.true found (sym c.fold_byte.ensures ∙ c.if-fold_byte-letter.false)

pub returns : goal.returns
returns c = sym (c.loop-letter.invariant ∙ edf_end _ _ _ c.loop-letter-test.false)
