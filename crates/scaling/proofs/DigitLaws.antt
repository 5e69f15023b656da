-- Digits read one after another, with all numbers above the limit as one.
use Rattle.std.specs.Prelude.{Option, None, Some}
use mathlib.Core.Path.{◌≡◌, refl, sym, ap, ◌∙◌}
use mathlib.Core.Bool.{true, false}
use mathlib.Core.List.{List, [], ◌∷◌, ◌++◌}
use Prim.Native.Nat.{ℕ, ◌+◌, ◌-◌, ◌*◌, ◌≤◌, ◌<◌}
use native.Mathlib.Omega.{arith}
use borrow.Author.Tests.{le-leb, lt-leb, leb-true, leb-false}
use lib.Dec.{leb}
use lib.ListN.{length, get_or, drop}
use Rattle.scan.proofs.Cases.{by_test, none_some}
use Rattle.text.specs.Number.{digit, digits_from, natural}
use Rattle.text.proofs.Digits.{step, no_step, ended}
use Rattle.scaling.specs.Capped.{cap, capped}
use Rattle.scaling.specs.Limits.{coefficient_limit}

pub cap_small : (n : ℕ) → n ≤ coefficient_limit → cap n ≡ n
unfolding cap
cap_small n h = rw (le-leb n coefficient_limit h)

pub cap_large : (n : ℕ) → coefficient_limit < n → cap n ≡ coefficient_limit + 1
unfolding cap
cap_large n h = rw (lt-leb n coefficient_limit h)

-- A number as the loop keeps it.
pub cap_kept : (n : ℕ) → n ≤ coefficient_limit + 1 → cap n ≡ n
cap_kept n h = by_test (leb n coefficient_limit) (λ e. cap_small n (leb-true n coefficient_limit e))
    (λ e. let l = leb-false n coefficient_limit e in cap_large n l ∙ omega arith)

pub cap_le : (n : ℕ) → cap n ≤ coefficient_limit + 1
cap_le n = by_test (leb n coefficient_limit) (λ e. omega (arith, leb-true n coefficient_limit e, cap_small n (leb-true n coefficient_limit e)))
    (λ e. omega (arith, cap_large n (leb-false n coefficient_limit e)))

-- Above the limit a further digit tells no two numbers apart.
alike : (a b : ℕ) (s : List ℕ) → coefficient_limit < a → coefficient_limit < b → capped (digits_from a s) ≡ capped (digits_from b s)
unfolding digits_from
alike a b [] h g = ap Some (cap_large a h ∙ sym (cap_large b g))
alike a b (x ∷ s) h g =
    let later = alike (a * 10 + (x - 48)) (b * 10 + (x - 48)) s (omega arith) (omega arith) in by_test (digit x) (λ e. rw e later) (λ e. rw e)

pub more_cap : (n : ℕ) (s : List ℕ) → capped (digits_from (cap n) s) ≡ capped (digits_from n s)
more_cap n s =
    by_test (leb n coefficient_limit) (λ e. ap (λ (m : ℕ). capped (digits_from m s)) (cap_small n (leb-true n coefficient_limit e)))
    (λ e. let l = leb-false n coefficient_limit e in alike (cap n) n s (omega (arith, cap_large n l)) l)

module _ (s : List ℕ) (i v : ℕ) (h : i < length s) where
  pub turn : (n : ℕ) → digit (get_or s i 0) ≡ true → n ≡ cap (v * 10 + (get_or s i 0 - 48))
      → capped (digits_from n (drop (i + 1) s)) ≡ capped (digits_from v (drop i s))
  turn n d e =
      ap (λ (m : ℕ). capped (digits_from m (drop (i + 1) s))) e
      ∙ more_cap (v * 10 + (get_or s i 0 - 48)) (drop (i + 1) s)
      ∙ sym (ap capped (step s i v h d))

  pub stopped : digit (get_or s i 0) ≡ false → None ≡ capped (digits_from v (drop i s))
  stopped d = sym (ap capped (no_step s i v h d))

pub all_read : (s : List ℕ) (i v : ℕ) → length s ≤ i → v ≤ coefficient_limit + 1 → Some v ≡ capped (digits_from v (drop i s))
all_read s i v e h = ap Some (sym (cap_kept v h)) ∙ sym (ap capped (ended s i v e))

-- ---- Digits in two parts

abbrev pub further_digits : Option ℕ → List ℕ → Option ℕ
further_digits None s = None
further_digits (Some v) s = digits_from v s

pub joined : (a : ℕ) (s t : List ℕ) → digits_from a (s ++ t) ≡ further_digits (digits_from a s) t
unfolding digits_from
joined a [] t = refl
joined a (x ∷ s) t = let later = joined (a * 10 + (x - 48)) s t in by_test (digit x) (λ e. rw e later) (λ e. rw e)

-- One digit at least.
pub some_digit : (s t : List ℕ) → 0 < length s + length t → digits_from 0 (s ++ t) ≡ natural (s ++ t)
unfolding natural
some_digit [] [] h = absurd (omega arith)
some_digit [] (x ∷ t) h = refl
some_digit (x ∷ s) t h = refl

pub parts_natural : (s t : List ℕ) → 0 < length s + length t → further_digits (digits_from 0 s) t ≡ natural (s ++ t)
parts_natural s t h = sym (joined 0 s t) ∙ some_digit s t h

pub no_digit : (s t : List ℕ) → length s ≡ 0 → length t ≡ 0 → None ≡ capped (natural (s ++ t))
unfolding natural
no_digit [] [] h g = refl
no_digit [] (x ∷ t) h g = absurd (omega arith)
no_digit (x ∷ s) t h g = absurd (omega arith)

-- What the first part came to.
pub kept_le : (n : ℕ) (o : Option ℕ) → Some n ≡ capped o → n ≤ coefficient_limit + 1
kept_le n None e = absurd (none_some (sym e))
kept_le n (Some v) e = let d : n ≡ cap v = cc in omega (arith, d, cap_le v)

pub second : (n : ℕ) (o : Option ℕ) (t : List ℕ) → Some n ≡ capped o → capped (digits_from n t) ≡ capped (further_digits o t)
second n None t e = absurd (none_some (sym e))
second n (Some v) t e = let d : n ≡ cap v = cc in ap (λ (m : ℕ). capped (digits_from m t)) d ∙ more_cap v t

pub first_bad : (o : Option ℕ) (t : List ℕ) → None ≡ capped o → None ≡ capped (further_digits o t)
first_bad None t e = refl
first_bad (Some v) t e = absurd (none_some e)
