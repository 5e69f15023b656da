-- A text of the form is read: `numeral_of` gives what its pieces say.
use Rattle.std.specs.Prelude.{Option, None, Some}
use mathlib.Core.Path.{◌≡◌, refl, sym, ◌∙◌}
use mathlib.Core.Bool.{Bool}
use mathlib.Core.List.{List, [], ◌++◌, append_assoc, append-nil}
use Prim.Native.Nat.{ℕ}
use native.Mathlib.Omega.{arith}
use lib.IntN.{ℤ, pos, ◌-ℤ◌}
use lib.ListN.{length}
use Rattle.scan.specs.Byte.{ascii, same}
use Rattle.lexical.specs.Whole.{Digits}
use Rattle.lexical.proofs.WholeLaws.{natural_complete, whole_complete}
use Rattle.reals.specs.Form.{IsSign, IsDecimal, plain, pointed, IsExponent, given, IsMeasure, metres, degrees, radians, Pieces, Parse}
use Rattle.reals.specs.Form as form
use Rattle.reals.specs.Measure.{measure_named}
use Rattle.reals.specs.Numeral.{Numeral, numeral}
use Rattle.reals.specs.Numerals.{with_digits, without_sign, with_sign, exponent_of, with_exponent, measure_of, numeral_of}
use Rattle.reals.specs.declared.Measure.{Measure}
use Rattle.reals.proofs.FreeLaws.{FreeOf, NoDigit, free_nil, free_one, free_append, free_first, digits_free, whole_free, before_free, after_free}
use Rattle.reals.proofs.SplitLaws.{from, split-before, split_after}

-- ---- Which bytes stand in no piece before them

point_free : {d : List ℕ} {n places : ℕ} (b : ℕ) → NoDigit b → IsDecimal d n places → (◌≡◌ {A = ℕ} 46 b → ⊥) → FreeOf b d
point_free b other (plain h) p = digits_free b other h
point_free b other (pointed whole fraction h) p =
    free_append b (before_free b other whole fraction h) (free_append b (free_one b 46 p) (after_free b other whole fraction h))

sign_free : {s : List ℕ} {negative : Bool} (b : ℕ) → IsSign s negative → (◌≡◌ {A = ℕ} 43 b → ⊥) → (◌≡◌ {A = ℕ} 45 b → ⊥) → FreeOf b s
sign_free b form.none p m = free_nil b
sign_free b form.plus p m = free_one b 43 p
sign_free b form.minus p m = free_one b 45 m

exponent_free : {e : List ℕ} {z : ℤ} → IsExponent e z → FreeOf 95 e
exponent_free form.none = free_nil 95
exponent_free (given {l} h) =
    free_append 95 (free_one 95 101 (λ e. omega arith)) (whole_free 95 (λ d l e. omega arith) (λ e. omega arith) (λ e. omega arith) h)

-- ---- Each piece

module _ (m : Measure) (negative : Bool) (z : ℤ) where
  natural_gives : (whole fraction : List ℕ) {n : ℕ} → Digits (whole ++ fraction) n
      → with_digits m negative z whole fraction ≡ Some (numeral m negative (z -ℤ pos (length fraction)) n)
  unfolding with_digits
  natural_gives whole fraction h = rw (natural_complete h)

  decimal_gives : {d : List ℕ} {n places : ℕ} → IsDecimal d n places
      → without_sign m negative z d ≡ Some (numeral m negative (z -ℤ pos places) n)
  unfolding without_sign
  decimal_gives (plain {l} {n} h) =
      let free = digits_free 46 (λ d l e. omega arith) h in
      let b = rw (append-nil l) at (split-before 46 l free None) in
      let a = rw (append-nil l) at (split_after 46 l free None) in
      rw (b, a) (natural_gives l [] (rw (append-nil l) h))
  decimal_gives (pointed whole fraction h) =
      let free = before_free 46 (λ d l e. omega arith) whole fraction h in
      rw (split-before 46 whole free (Some fraction), split_after 46 whole free (Some fraction)) (natural_gives whole fraction h)

module _ (m : Measure) (z : ℤ) where
  sign_gives : {s : List ℕ} {negative : Bool} → IsSign s negative → (d : List ℕ) → FreeOf 45 d → FreeOf 43 d
      → with_sign m z (s ++ d) ≡ without_sign m negative z d
  unfolding with_sign
  sign_gives form.none d f g = rw (free_first 45 d (λ e. omega arith) f, free_first 43 d (λ e. omega arith) g)
  sign_gives form.plus d f g = refl
  sign_gives form.minus d f g = refl

-- What follows `e`, or nothing.
pub exponent_tail : {e : List ℕ} {z : ℤ} → IsExponent e z → (o : Option (List ℕ)) × (e ≡ from 101 o) × (exponent_of o ≡ Some z)
exponent_tail form.none = (None, refl, refl)
exponent_tail (given {l} h) = (Some l, refl, whole_complete h)

exponent_gives : (m : Measure) (front : List ℕ) {e : List ℕ} {z : ℤ} → FreeOf 101 front → IsExponent e z
    → with_exponent m (front ++ e) ≡ with_sign m z front
unfolding with_exponent
exponent_gives m front free h =
    let t = exponent_tail h in
    rw (t.1, split-before 101 front free t.0, split_after 101 front free t.0, t.2)

-- What follows the underscore, or nothing.
pub measure_tail : {t : List ℕ} {m : Measure} → IsMeasure t m → (o : Option (List ℕ)) × (t ≡ from 95 o) × (measure_of o ≡ Some m)
unfolding measure_named same
measure_tail form.none = (None, refl, refl)
measure_tail metres = (Some (ascii "m"), refl, refl)
measure_tail degrees = (Some (ascii "deg"), refl, refl)
measure_tail radians = (Some (ascii "rad"), refl, refl)

measure_gives : (front : List ℕ) {t : List ℕ} {m : Measure} → FreeOf 95 front → IsMeasure t m → numeral_of (front ++ t) ≡ with_exponent m front
unfolding numeral_of
measure_gives front free h =
    let t = measure_tail h in
    rw (t.1, split-before 95 front free t.0, split_after 95 front free t.0, t.2)

-- ---- The whole text

module _ {l : List ℕ} {p : Pieces} {x : Numeral} (h : Parse l p x) where
  -- No sign stands in the digits, no `e` before the exponent, no underscore before the unit.
  pub digits_plus_free : FreeOf 43 p.digits
  digits_plus_free = point_free 43 (λ k l q. omega arith) h.digits_are (λ q. omega arith)

  pub digits_minus_free : FreeOf 45 p.digits
  digits_minus_free = point_free 45 (λ k l q. omega arith) h.digits_are (λ q. omega arith)

  pub front_free : FreeOf 101 (p.sign ++ p.digits)
  front_free =
      free_append 101 (sign_free 101 h.sign_is (λ q. omega arith) (λ q. omega arith))
      (point_free 101 (λ k l q. omega arith) h.digits_are (λ q. omega arith))

  pub measure_front_free : FreeOf 95 ((p.sign ++ p.digits) ++ p.exponent)
  measure_front_free =
      free_append 95
      (free_append 95 (sign_free 95 h.sign_is (λ q. omega arith) (λ q. omega arith))
      (point_free 95 (λ k l q. omega arith) h.digits_are (λ q. omega arith)))
      (exponent_free h.exponent_is)

  pub cut : l ≡ ((p.sign ++ p.digits) ++ p.exponent) ++ p.measure
  cut = h.is ∙ simp append_assoc

  pub complete : numeral_of l ≡ Some x
  complete =
      rw (
        cut,
        measure_gives ((p.sign ++ p.digits) ++ p.exponent) measure_front_free h.measure_is,
        exponent_gives x.measure (p.sign ++ p.digits) front_free h.exponent_is,
      )
      (sign_gives x.measure h.exponent h.sign_is p.digits digits_minus_free digits_plus_free
      ∙ decimal_gives x.measure x.negative h.exponent h.digits_are
      ∙ rw (sym h.power_is))
