-- The main theorems about texts of real numbers: `real_of` reads just those that have the form and lie inside the bounds, each error is
-- given exactly in its case, and what a text says is one.
use Rattle.std.specs.Prelude.{Some, Ok, Err}
use Rattle.std.proofs.lemmas.Option.{same_Some}
use Rattle.scan.specs.Outcome.{Outcome, refused, error_at}
use mathlib.Core.Path.{◌≡◌, refl, sym, ap, ◌∙◌, subst}
use mathlib.Core.Bool.{true}
use mathlib.Core.List.{List}
use mathlib.Core.Logic.{◌↔◌, ◌⊎◌, inl, inr}
use Prim.Native.Nat.{ℕ}
use native.Mathlib.Omega.{arith}
use borrow.Author.Tests.{le-leb, leb-true}
use lib.Dec.{leb}
use lib.IntN.{nat_abs}
use Rattle.scan.specs.declared.Error.{Error}
use Rattle.scan.proofs.Cases.{by_test, by_option, both_true, clash, none_some, ok-failed}
use Rattle.scaling.specs.Limits.{coefficient_limit, power_limit}
use Rattle.reals.specs.Form.{IsNumeral, InBounds, IsReal, IsOutOfBounds}
use Rattle.reals.specs.Numeral.{Numeral}
use Rattle.reals.specs.Numerals.{numeral_of}
use Rattle.reals.specs.Real.{is_bounded, value_in, judged, real_of}
use Rattle.reals.specs.declared.Real.{Real}
use Rattle.reals.proofs.FormComplete.{complete}
use Rattle.reals.proofs.FormSound.{sound}

-- ---- The form

-- A text says x exactly if `numeral_of` gives x.
pub numeral_is : (l : List ℕ) {x : Numeral} → (numeral_of l ≡ Some x) ↔ IsNumeral l x
numeral_is l = (sound l, λ h. complete h.1)

-- What it says is one.
pub one_numeral : {l : List ℕ} {x y : Numeral} → IsNumeral l x → IsNumeral l y → x ≡ y
one_numeral {l} {x} {y} a b = same_Some x y (sym (complete a.1) ∙ complete b.1)

-- ---- The bounds

bounded_in : {x : Numeral} → InBounds x → is_bounded x ≡ true
bounded_in {x} h = rw (le-leb x.coefficient coefficient_limit h.coefficient, le-leb (nat_abs x.power) power_limit h.power)

in_bounded : {x : Numeral} → is_bounded x ≡ true → InBounds x
in_bounded {x} e =
    let t = both_true (leb x.coefficient coefficient_limit) (leb (nat_abs x.power) power_limit) e in
    record { coefficient = leb-true x.coefficient coefficient_limit t.0; power = leb-true (nat_abs x.power) power_limit t.1 }

-- ---- The number, or an error

-- What is made of a text, by what it says.
data Judged (l : List ℕ) : Outcome Real → Type 0 where
  value : {x : Numeral} → IsNumeral l x → InBounds x → Judged l (Ok (value_in x))
  outside : {x : Numeral} → IsNumeral l x → (InBounds x → ⊥) → Judged l (refused 27 0)
  formless : ((x : Numeral) → IsNumeral l x → ⊥) → Judged l (refused 18 0)

judged_some : {l : List ℕ} (x : Numeral) → IsNumeral l x → Judged l (judged (Some x))
unfolding judged
judged_some x h =
    by_test (is_bounded x) (λ t. rw t (value h (in_bounded t))) (λ f. rw f (outside h (λ b. clash (is_bounded x) (bounded_in b) f)))

is_judged : (l : List ℕ) → Judged l (real_of l)
unfolding real_of judged
is_judged l =
    by_option (numeral_of l) (λ e. rw e (formless (λ x h. none_some (sym e ∙ complete h.1)))) (λ x e. rw e (judged_some x (sound l e)))

-- The code of an error, and 0.
abbrev code_in : Outcome Real → ℕ
code_in (Ok x) = 0
code_in (Err e) = e.code

-- A text stands for the real number r exactly if `real_of` gives r;
to_real : {l : List ℕ} {o : Outcome Real} {r : Real} → Judged l o → o ≡ Ok r → IsReal l r
to_real {r = r} (value {x} h b) e =
    record { numeral = x; form = h; bounds = b; value = cc }
to_real (outside h b) e = absurd (ok-failed (sym e))
to_real (formless h) e = absurd (ok-failed (sym e))

from_real : {l : List ℕ} {r : Real} → IsReal l r → real_of l ≡ Ok r
unfolding real_of judged
from_real {l} h = rw (complete h.form.1, bounded_in h.bounds) (ap Ok (sym h.value))

pub reads : (l : List ℕ) {r : Real} → (real_of l ≡ Ok r) ↔ IsReal l r
reads l = (to_real (is_judged l), from_real)

-- so that it stands for one at most.
pub one_real : {l : List ℕ} {r q : Real} → IsReal l r → IsReal l q → r ≡ q
one_real {r = r} {q = q} a b = let e : Ok r ≡ Ok q = sym (from_real a) ∙ from_real b in cc

-- Error 18 is given exactly if the text has not the form,
to_formless : {l : List ℕ} {o : Outcome Real} → Judged l o → o ≡ refused 18 0 → (x : Numeral) → IsNumeral l x → ⊥
to_formless (value h b) e = absurd (ok-failed e)
to_formless (outside h b) e = absurd (omega (arith, ap code_in e))
to_formless (formless h) e = h

from_formless : {l : List ℕ} {o : Outcome Real} → Judged l o → ((x : Numeral) → IsNumeral l x → ⊥) → o ≡ refused 18 0
from_formless (value {x} h b) n = absurd (n x h)
from_formless (outside {x} h b) n = absurd (n x h)
from_formless (formless h) n = refl

pub refuses_form : (l : List ℕ) → (real_of l ≡ refused 18 0) ↔ ((x : Numeral) → IsNumeral l x → ⊥)
refuses_form l = (to_formless (is_judged l), from_formless (is_judged l))

-- 27 exactly if it has the form and is outside the bounds,
to_outside : {l : List ℕ} {o : Outcome Real} → Judged l o → o ≡ refused 27 0 → IsOutOfBounds l
to_outside (value h b) e = absurd (ok-failed e)
to_outside (outside {x} h b) e = record { numeral = x; form = h; outside = b }
to_outside (formless h) e = absurd (omega (arith, ap code_in e))

from_outside : {l : List ℕ} {o : Outcome Real} → Judged l o → IsOutOfBounds l → o ≡ refused 27 0
from_outside (value {x} h b) n = absurd (n.outside (subst InBounds (one_numeral h n.form) b))
from_outside (outside h b) n = refl
from_outside (formless h) n = absurd (h n.numeral n.form)

pub refuses_bounds : (l : List ℕ) → (real_of l ≡ refused 27 0) ↔ IsOutOfBounds l
refuses_bounds l = (to_outside (is_judged l), from_outside (is_judged l))

-- and no other.
pub no_other : (l : List ℕ) {e : Error} → real_of l ≡ Err e → (e ≡ error_at 18 0) ⊎ (e ≡ error_at 27 0)
no_other l {e} = go (is_judged l)
  where
    go : {o : Outcome Real} → Judged l o → o ≡ Err e → (e ≡ error_at 18 0) ⊎ (e ≡ error_at 27 0)
    go (value h b) q = absurd (ok-failed q)
    go (outside h b) q = inr (cc)
    go (formless h) q = inl (cc)
