-- The decimal of a whole number stands for that number; how long it is, and which bytes it holds.
use Rattle.std.specs.Prelude.{Some}
use mathlib.Core.Path.{◌≡◌, refl, sym, ap, ◌∙◌, subst}
use mathlib.Core.Bool.{Bool, true, ◌||◌}
use mathlib.Core.List.{List, [], ◌∷◌}
use Prim.Native.Nat.{ℕ, zero, suc, ◌+◌, ◌*◌, ◌/◌, ◌%◌, ◌^◌, ◌≤◌, ◌<◌}
use native.Mathlib.Nat.{pow-suc, div-lt_iff_lt-mul}
use native.Mathlib.Omega.{arith}
use borrow.Author.Tests.{lt-ltb, le-leb, ltb-true, ne_eqb}
use lib.Dec.{eqb, ltb}
use lib.IntN.{ℤ, pos, negsuc}
use lib.ListN.{length}
use mir.Syntax.{w64}
use mir.Val.{SFits}
use Rattle.scan.proofs.Cases.{by_test}
use Rattle.text.specs.Decimal.{digits_of, decimal}
use Rattle.text.specs.Number.{digit, digits_from, natural, positive, negative, whole_number}
use Rattle.text.specs.Text.{every}

-- ---- What the digits stand for

is_digit : (d : ℕ) → d < 10 → digit (48 + d) ≡ true
unfolding digit
is_digit d h = rw (le-leb 48 (48 + d) (omega arith), le-leb (48 + d) 57 (omega arith))

digit_step : (a d : ℕ) (s : List ℕ) → d < 10 → digits_from a ((48 + d) ∷ s) ≡ digits_from (a * 10 + d) s
unfolding digits_from
digit_step a d s h = rw (is_digit d h) (ap (λ (k : ℕ). digits_from k s) (omega arith))

-- Reading the digits of n gives n.
digits_back : (f n : ℕ) (s : List ℕ) → n < 10 ^ f → digits_from 0 (digits_of f n s) ≡ digits_from n s
unfolding digits_of
digits_back zero n s h = ap (λ (k : ℕ). digits_from k s) (omega arith)
digits_back (suc f) n s h =
    let fewer : n / 10 < 10 ^ f = (div-lt_iff_lt-mul {k = 10} {x = n} {y = 10 ^ f} (omega arith)).1 (rw pow-suc at h) in
    let later = digits_back f (n / 10) ((48 + n % 10) ∷ s) fewer in
    by_test (ltb n 10)
    (λ e. rw e (digit_step 0 n s (ltb-true n 10 e) ∙ ap (λ (k : ℕ). digits_from k s) (omega arith)))
    (λ e. rw e (later ∙ digit_step (n / 10) (n % 10) s (omega arith) ∙ ap (λ (k : ℕ). digits_from k s) (omega arith)))

-- ---- The first byte is a digit

record Front (l : List ℕ) : Type 0 where
  first : ℕ
  rest : List ℕ
  is : l ≡ first ∷ rest
  low : 48 ≤ first
  high : first ≤ 57

front_cons : (d : ℕ) (s : List ℕ) → d < 10 → Front ((48 + d) ∷ s)
front_cons d s h = record { first = 48 + d; rest = s; is = refl; low = omega arith; high = omega arith }

front : (f n : ℕ) (s : List ℕ) → Front s → Front (digits_of f n s)
unfolding digits_of
front zero n s F = F
front (suc f) n s F =
    let later = front f (n / 10) ((48 + n % 10) ∷ s) (front_cons (n % 10) s (omega arith)) in
    by_test (ltb n 10) (λ e. rw e (front_cons n s (ltb-true n 10 e))) (λ e. rw e later)

digits_front : (f n : ℕ) → Front (digits_of (suc f) n [])
unfolding digits_of
digits_front f n =
    by_test (ltb n 10) (λ e. rw e (front_cons n [] (ltb-true n 10 e)))
    (λ e. rw e (front f (n / 10) ((48 + n % 10) ∷ []) (front_cons (n % 10) [] (omega arith))))

natural_is : (l : List ℕ) → Front l → natural l ≡ digits_from 0 l
unfolding natural
natural_is l F = subst (λ (m : List ℕ). natural m ≡ digits_from 0 m) (sym F.is) refl

no_sign : (l : List ℕ) → Front l → whole_number l ≡ positive (natural l)
unfolding whole_number
no_sign l F =
    let low = F.low in
    subst (λ (m : List ℕ). whole_number m ≡ positive (natural m)) (sym F.is)
    (rw (ne_eqb F.first 45 (λ e. omega arith), ne_eqb F.first 43 (λ e. omega arith)))

-- ---- There and back

natural_back : (n : ℕ) → n ≤ 2 ^ 63 → natural (digits_of 19 n []) ≡ Some n
unfolding digits_from
natural_back n h = natural_is (digits_of 19 n []) (digits_front 18 n) ∙ digits_back 19 n [] (omega arith)

pub decimal_back : (z : ℤ) → SFits w64 z → whole_number (decimal z) ≡ Some z
unfolding decimal whole_number
decimal_back (pos n) F =
    let h : n < 2 ^ 63 = F.sfits in
    no_sign (digits_of 19 n []) (digits_front 18 n) ∙ ap positive (natural_back n (omega arith)) ∙ rw (lt-ltb n (2 ^ 63) h)
decimal_back (negsuc n) F =
    let h : n < 2 ^ 63 = F.sfits in
    ap negative (natural_back (suc n) (omega arith)) ∙ rw (le-leb (suc n) (2 ^ 63) (omega arith))

-- ---- The length

digits_length : (f n : ℕ) (s : List ℕ) → length (digits_of f n s) ≤ f + length s
unfolding digits_of
digits_length zero n s = omega arith
digits_length (suc f) n s =
    let later = digits_length f (n / 10) ((48 + n % 10) ∷ s) in
    by_test (ltb n 10) (λ e. rw e (omega arith)) (λ e. rw e (omega arith))

pub decimal-length : (z : ℤ) → length (decimal z) ≤ 20
unfolding decimal
decimal-length (pos n) = omega (arith, digits_length 19 n [])
decimal-length (negsuc n) = omega (arith, digits_length 19 (suc n) [])

pub decimal_some : (z : ℤ) → 0 < length (decimal z)
unfolding decimal
decimal_some (pos n) = subst (λ (l : List ℕ). 0 < length l) (sym (digits_front 18 n).is) (omega arith)
decimal_some (negsuc n) = omega arith

-- ---- The bytes

-- A digit or the minus.
abbrev pub decimal_byte : ℕ → Bool
decimal_byte b = digit b || eqb b 45

digits_plain : (f n : ℕ) (s : List ℕ) → every decimal_byte s ≡ true → every decimal_byte (digits_of f n s) ≡ true
unfolding digits_of
digits_plain zero n s h = h
digits_plain (suc f) n s h =
    let later = digits_plain f (n / 10) ((48 + n % 10) ∷ s) (one (n % 10) (omega arith)) in
    by_test (ltb n 10) (λ e. rw e (one n (ltb-true n 10 e))) (λ e. rw e later)
  where
    one : (d : ℕ) → d < 10 → every decimal_byte ((48 + d) ∷ s) ≡ true
    one d k = rw (is_digit d k) h

pub decimal_plain : (z : ℤ) → every decimal_byte (decimal z) ≡ true
unfolding decimal digit
decimal_plain (pos n) = digits_plain 19 n [] refl
decimal_plain (negsuc n) = digits_plain 19 (suc n) [] refl
