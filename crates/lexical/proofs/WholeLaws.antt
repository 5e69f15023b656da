-- `whole_number` reads a list of bytes just where it is a whole number, and gives the number that it stands for.
use Rattle.std.specs.Prelude.{Option, None, Some}
use Rattle.std.proofs.lemmas.Option.{none-some, same_Some}
use mathlib.Core.Path.{◌≡◌, refl, sym, ap, subst, ◌∙◌}
use mathlib.Core.Bool.{true, false}
use mathlib.Core.Logic.{◌↔◌}
use mathlib.Core.List.{List, [], ◌∷◌, ◌++◌, append_assoc, append-nil}
use Prim.Native.Nat.{ℕ, ◌+◌, ◌-◌, ◌*◌, ◌^◌, ◌≤◌, ◌<◌}
use native.Mathlib.Omega.{arith}
use borrow.Author.Tests.{le-leb, lt-ltb, leb-true, ltb-true, eqb-true, ne_eqb}
use lib.Dec.{eqb, leb, ltb}
use lib.IntN.{ℤ, pos, neg_ℤ}
use Rattle.scan.specs.Byte.{byte}
use Rattle.scan.proofs.Cases.{by_test}
use Rattle.text.specs.Number.{digit, digits_from, natural, positive, negative, whole_number}
use Rattle.lexical.specs.Whole.{Digits, one, more, IsWhole, bare, plus, minus}
use Rattle.text.proofs.Numbers.{digit_range}

is_digit : (d : ℕ) → d < 10 → digit (48 + d) ≡ true
unfolding digit
is_digit d h = rw (le-leb 48 (48 + d) (omega arith), le-leb (48 + d) 57 (omega arith))

as_digit : (b : ℕ) → digit b ≡ true → (48 + (b - 48) ≡ b) × (b - 48 < 10)
as_digit b e = let r = digit_range b e in (omega arith, omega arith)

-- ---- What is read stands in the relation

from_sound : (r l : List ℕ) (a n : ℕ) → Digits l a → digits_from a r ≡ Some n → Digits (l ++ r) n
unfolding digits_from
from_sound [] l a n h e = rw (append-nil l, ← same_Some a n e) h
from_sound (b ∷ r) l a n h e =
    by_test (digit b)
    (λ t.
    let q = as_digit b t in
    let next : Digits (l ++ (b ∷ [])) (a * 10 + (b - 48)) = rw q.0 at (more h q.1) in
    rw (append_assoc l (b ∷ []) r) at (from_sound r (l ++ (b ∷ [])) (a * 10 + (b - 48)) n next (rw t at e)))
    (λ f. absurd (none-some n (rw f at e)))

pub natural_sound : (l : List ℕ) (n : ℕ) → natural l ≡ Some n → Digits l n
unfolding natural digits_from
natural_sound [] n e = absurd (none-some n e)
natural_sound (b ∷ r) n e =
    by_test (digit b)
    (λ t.
    let q = as_digit b t in
    let z : 0 * 10 + (b - 48) ≡ b - 48 = omega arith in
    let first : Digits (b ∷ []) (0 * 10 + (b - 48)) = rw z (rw q.0 at (one q.1)) in
    from_sound r (b ∷ []) (0 * 10 + (b - 48)) n first (rw t at e))
    (λ f. absurd (none-some n (rw f at e)))

-- ---- What stands there is read

then_reads : (l r : List ℕ) (a m : ℕ) → digits_from a l ≡ Some m → digits_from a (l ++ r) ≡ digits_from m r
unfolding digits_from
then_reads [] r a m e = ap (λ (k : ℕ). digits_from k r) (same_Some a m e)
then_reads (b ∷ l) r a m e =
    by_test (digit b) (λ t. rw t (then_reads l r (a * 10 + (b - 48)) m (rw t at e)))
    (λ f. absurd (none-some m (rw f at e)))

last_reads : (a d : ℕ) → d < 10 → digits_from a ((48 + d) ∷ []) ≡ Some (a * 10 + d)
unfolding digits_from
last_reads a d h = rw (is_digit d h) (ap (λ (k : ℕ). Some k) (omega arith))

digits_complete : {l : List ℕ} {n : ℕ} → Digits l n → digits_from 0 l ≡ Some n
digits_complete (one {d} h) = last_reads 0 d h ∙ ap (λ (k : ℕ). Some k) (omega arith)
digits_complete (more {l} {n} {d} h k) = then_reads l ((48 + d) ∷ []) 0 n (digits_complete h) ∙ last_reads n d k

-- Digits start with a digit.
record Front (l : List ℕ) : Type 0 where
  byte : ℕ
  rest : List ℕ
  is : l ≡ byte ∷ rest
  low : 48 ≤ byte

front : {l : List ℕ} {n : ℕ} → Digits l n → Front l
front (one {d} h) = record { byte = 48 + d; rest = []; is = refl; low = omega arith }
front (more {l} {n} {d} h k) =
    let f = front h in
    record { byte = f.byte; rest = f.rest ++ ((48 + d) ∷ []); is = ap (λ (x : List ℕ). x ++ ((48 + d) ∷ [])) f.is; low = f.low }

pub natural_complete : {l : List ℕ} {n : ℕ} → Digits l n → natural l ≡ Some n
unfolding natural
natural_complete {l} {n} h =
    let f = front h in
    subst (λ (x : List ℕ). natural x ≡ digits_from 0 x) (sym f.is) refl ∙ digits_complete h

pub whole_complete : {l : List ℕ} {z : ℤ} → IsWhole l z → whole_number l ≡ Some z
unfolding whole_number
whole_complete (bare {l} {n} h k) =
    let f = front h in
    let p : eqb (byte l 0) 45 ≡ false = rw f.is (ne_eqb f.byte 45 (λ e. omega (arith, f.low))) in
    let q : eqb (byte l 0) 43 ≡ false = rw f.is (ne_eqb f.byte 43 (λ e. omega (arith, f.low))) in
    rw (p, q, natural_complete h, lt-ltb n (2 ^ 63) k)
whole_complete (plus {l} {n} h k) = rw (natural_complete h, lt-ltb n (2 ^ 63) k)
whole_complete (minus {l} {n} h k) = rw (natural_complete h, le-leb n (2 ^ 63) k)

positive_sound : (o : Option ℕ) (z : ℤ) → positive o ≡ Some z → (n : ℕ) × (o ≡ Some n) × (n < 2 ^ 63) × (pos n ≡ z)
positive_sound None z e = absurd (none-some z e)
positive_sound (Some n) z e =
    by_test (ltb n (2 ^ 63)) (λ t. (n, refl, ltb-true n (2 ^ 63) t, same_Some (pos n) z (rw t at e)))
    (λ f. absurd (none-some z (rw f at e)))

negative_sound : (o : Option ℕ) (z : ℤ) → negative o ≡ Some z → (n : ℕ) × (o ≡ Some n) × (n ≤ 2 ^ 63) × (neg_ℤ (pos n) ≡ z)
negative_sound None z e = absurd (none-some z e)
negative_sound (Some n) z e =
    by_test (leb n (2 ^ 63)) (λ t. (n, refl, leb-true n (2 ^ 63) t, same_Some (neg_ℤ (pos n)) z (rw t at e)))
    (λ f. absurd (none-some z (rw f at e)))

pub whole_sound : (l : List ℕ) {z : ℤ} → whole_number l ≡ Some z → IsWhole l z
unfolding whole_number natural
whole_sound [] {z} e = absurd (none-some z e)
whole_sound (b ∷ l) {z} e =
    by_test (eqb b 45)
    (λ t.
    let r = negative_sound (natural l) z (rw t at e) in
    rw (eqb-true b 45 t, ← r.3) (minus (natural_sound l r.0 r.1) r.2))
    (λ f.
    by_test (eqb b 43)
    (λ t.
    let r = positive_sound (natural l) z (rw (f, t) at e) in
    rw (eqb-true b 43 t, ← r.3) (plus (natural_sound l r.0 r.1) r.2))
    (λ g.
    let r = positive_sound (natural (b ∷ l)) z (rw (f, g) at e) in
    rw (← r.3) (bare (natural_sound (b ∷ l) r.0 r.1) r.2)))

pub whole_is : (l : List ℕ) {z : ℤ} → (whole_number l ≡ Some z) ↔ IsWhole l z
whole_is l = (whole_sound l, whole_complete)
