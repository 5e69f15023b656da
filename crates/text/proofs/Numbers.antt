-- A whole number's text holds no point.
use Rattle.std.specs.Prelude.{Option, None, Some}
use mathlib.Core.Path.{◌≡◌, refl}
use mathlib.Core.Bool.{Bool, true, false, cond}
use mathlib.Core.List.{List, [], ◌∷◌}
use Prim.Native.Nat.{ℕ, zero, suc, ◌+◌, ◌-◌, ◌*◌, ◌^◌, ◌≤◌}
use native.Mathlib.Omega.{arith}
use borrow.Author.Tests.{eqb-true, ne_eqb}
use lib.Dec.{eqb, leb, ltb}
use lib.IntN.{ℤ, pos, neg_ℤ}
use lib.ListN.{length}
use Rattle.scan.specs.First.{Without}
use Rattle.scan.specs.Search.{is}
use Rattle.scan.proofs.Cases.{by_test}
use Rattle.scan.proofs.Decides.{decided, decides_and, leb_decides}
use Rattle.text.specs.Number.{digit, digits_from, natural, positive, negative, whole_number}

-- No byte is a point.
abbrev pub Plain : List ℕ → Type 0
Plain l = Without (is 46) l 0 (length l)

-- Where an answer is there, the text is plain.
abbrev PlainIf : {A : Type 0} → List ℕ → Option A → Type 0
PlainIf l None = Unit {0}
PlainIf l (Some x) = Plain l

-- So it is with another byte in front,
plain_cons : {A : Type 0} (b : ℕ) (l : List ℕ) (o : Option A) → eqb b 46 ≡ false → PlainIf l o → PlainIf (b ∷ l) o
plain_cons b l None e h = tt
plain_cons b l (Some x) e h = go
  where
    go : Plain (b ∷ l)
    go zero low high = e
    go (suc k) low high = h k (omega arith) (omega arith)

-- and where the answer is kept by a test alone.
plain_kept : {A : Type 0} (l : List ℕ) (x : A) (t : Bool) → Plain l → PlainIf l (cond t (Some x) None)
plain_kept l x true h = h
plain_kept l x false h = tt

-- The digits are the bytes 48 to 57, and a point is 46.
pub digit_range : (b : ℕ) → digit b ≡ true → (48 ≤ b) × (b ≤ 57)
unfolding digit
digit_range b e = decided (decides_and (leb_decides 48 b) (leb_decides b 57)) e

-- Digits, then digits of some number, then a range and a sign.
digits_plain : (a : ℕ) (l : List ℕ) → PlainIf l (digits_from a l)
unfolding digits_from
digits_plain a [] = λ k low high. absurd (omega arith)
digits_plain a (b ∷ l) =
    by_test (digit b)
    (λ e. rw e (plain_cons b l (digits_from (a * 10 + (b - 48)) l) (ne_eqb b 46 (λ q. omega (arith, digit_range b e)))
    (digits_plain (a * 10 + (b - 48)) l)))
    (λ e. rw e tt)

natural_plain : (l : List ℕ) → PlainIf l (natural l)
unfolding natural
natural_plain [] = tt
natural_plain (b ∷ l) = digits_plain 0 (b ∷ l)

positive_plain : (l : List ℕ) (o : Option ℕ) → PlainIf l o → PlainIf l (positive o)
positive_plain l None h = tt
positive_plain l (Some n) h = plain_kept l (pos n) (ltb n (2 ^ 63)) h

negative_plain : (l : List ℕ) (o : Option ℕ) → PlainIf l o → PlainIf l (negative o)
negative_plain l None h = tt
negative_plain l (Some n) h = plain_kept l (neg_ℤ (pos n)) (leb n (2 ^ 63)) h

signed_plain : (b c : ℕ) (l : List ℕ) → eqb c 46 ≡ false → eqb b c ≡ true → PlainIf (b ∷ l) (natural l)
signed_plain b c l other e = plain_cons b l (natural l) (rw (eqb-true b c e) other) (natural_plain l)

whole_says : (l : List ℕ) → PlainIf l (whole_number l)
unfolding whole_number
whole_says [] = positive_plain [] (natural []) (natural_plain [])
whole_says (b ∷ l) =
    by_test (eqb b 45) (λ e. rw e (negative_plain (b ∷ l) (natural l) (signed_plain b 45 l refl e)))
    (λ e. by_test (eqb b 43) (λ q. rw (e, q) (positive_plain (b ∷ l) (natural l) (signed_plain b 43 l refl q)))
    (λ q. rw (e, q) (positive_plain (b ∷ l) (natural (b ∷ l)) (natural_plain (b ∷ l)))))

pub whole_plain : (l : List ℕ) {z : ℤ} → whole_number l ≡ Some z → Plain l
whole_plain l e = rw e at (whole_says l)
