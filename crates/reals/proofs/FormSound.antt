-- What is read has the form: `numeral_of` gives a numeral only of a text whose pieces say it.
use Rattle.std.specs.Prelude.{Option, None, Some, option_map}
use Rattle.std.proofs.lemmas.Option.{none-some, same_Some}
use mathlib.Core.Path.{◌≡◌, refl, sym, ap, ◌∙◌, subst}
use mathlib.Core.Bool.{Bool, true, false}
use mathlib.Core.List.{List, [], ◌∷◌, ◌++◌, append_assoc}
use Prim.Native.Nat.{ℕ}
use borrow.Author.Tests.{eqb-true}
use lib.Dec.{eqb}
use lib.IntN.{ℤ, pos, ◌-ℤ◌}
use lib.ListN.{length}
use Rattle.scan.specs.Byte.{ascii, same}
use Rattle.scan.specs.Search.{first_from, is}
use Rattle.scan.proofs.Cases.{by_test}
use Rattle.scan.proofs.Decides.{same_decides, decided}
use Rattle.text.specs.Number.{natural}
use Rattle.lexical.proofs.WholeLaws.{natural_sound, whole_sound}
use Rattle.reals.specs.Cut.{before, after, bytes_after}
use Rattle.reals.specs.Form.{IsSign, IsDecimal, plain, pointed, IsExponent, given, IsMeasure, metres, degrees, radians, Pieces, Parse, IsNumeral}
use Rattle.reals.specs.Form as form
use Rattle.reals.specs.Measure.{measure_named}
use Rattle.reals.specs.Numeral.{Numeral, numeral}
use Rattle.reals.specs.Numerals.{and_then, with_digits, without_sign, with_sign, exponent_of, with_exponent, measure_of, numeral_of}
use Rattle.reals.specs.declared.Measure.{Measure}
use Rattle.reals.proofs.SplitLaws.{from, rejoined}

-- ---- A value that is there was made of one that is there

then_some : {A B : Type 0} (o : Option A) (go : A → Option B) {y : B} → and_then o go ≡ Some y → (x : A) × (o ≡ Some x) × (go x ≡ Some y)
then_some None go {y} e = absurd (none-some y e)
then_some (Some x) go e = (x, refl, e)

map_some : {A B : Type 0} (f : A → B) (o : Option A) {y : B} → option_map f o ≡ Some y → (x : A) × (o ≡ Some x) × (f x ≡ y)
map_some f None {y} e = absurd (none-some y e)
map_some f (Some x) {y} e = (x, refl, same_Some (f x) y e)

-- ---- Each piece

-- Digits, with the point where there is one, and what they say.
pub record Decimal (m : Measure) (negative : Bool) (z : ℤ) (d : List ℕ) (x : Numeral) : Type 0 where
  pub coefficient : ℕ
  pub places : ℕ
  pub is : IsDecimal d coefficient places
  pub says : numeral m negative (z -ℤ pos places) coefficient ≡ x

module _ (m : Measure) (negative : Bool) (z : ℤ) {x : Numeral} where
  digits_from_lem : (front : List ℕ) (o : Option (List ℕ)) → with_digits m negative z front (bytes_after o) ≡ Some x
      → Decimal m negative z (front ++ from 46 o) x
  unfolding with_digits
  digits_from_lem front None e =
      let r = map_some (numeral m negative (z -ℤ pos 0)) (natural (front ++ [])) e in
      record { coefficient = r.0; places = 0; is = plain (natural_sound (front ++ []) r.0 r.1); says = r.2 }
  digits_from_lem front (Some w) e =
      let r = map_some (numeral m negative (z -ℤ pos (length w))) (natural (front ++ w)) e in
      record { coefficient = r.0; places = length w; is = pointed front w (natural_sound (front ++ w) r.0 r.1); says = r.2 }

  decimal_from : (l : List ℕ) → without_sign m negative z l ≡ Some x → Decimal m negative z l x
  unfolding without_sign
  decimal_from l e =
      let f = first_from (is 46) l 0 in
      subst (λ (k : List ℕ). Decimal m negative z k x) (sym (rejoined 46 l)) (digits_from_lem (before f l) (after f l) e)

-- A sign, if there is one, and what follows it.
record Signed (m : Measure) (z : ℤ) (l : List ℕ) (x : Numeral) : Type 0 where
  sign : List ℕ
  negative : Bool
  digits : List ℕ
  is : l ≡ sign ++ digits
  sign_is : IsSign sign negative
  decimal : Decimal m negative z digits x

sign_from : (m : Measure) (z : ℤ) {x : Numeral} (l : List ℕ) → with_sign m z l ≡ Some x → Signed m z l x
unfolding with_sign
sign_from m z [] e =
    record { sign = []; negative = false; digits = []; is = refl; sign_is = form.none; decimal = decimal_from m false z [] e }
sign_from m z {x} (b ∷ l) e =
    by_test (eqb b 45)
    (λ t.
    record {
      sign = 45 ∷ [];
      negative = true;
      digits = l;
      is = rw (eqb-true b 45 t);
      sign_is = form.minus;
      decimal = decimal_from m true z l (rw t at e);
    })
    (λ f.
    by_test (eqb b 43)
    (λ t.
    record {
      sign = 43 ∷ [];
      negative = false;
      digits = l;
      is = rw (eqb-true b 43 t);
      sign_is = form.plus;
      decimal = decimal_from m false z l (rw (f, t) at e);
    })
    (λ g.
    record {
      sign = [];
      negative = false;
      digits = b ∷ l;
      is = refl;
      sign_is = form.none;
      decimal = decimal_from m false z (b ∷ l) (rw (f, g) at e);
    }))

exponent_is : (o : Option (List ℕ)) {z : ℤ} → exponent_of o ≡ Some z → IsExponent (from 101 o) z
exponent_is None {z} e = subst (IsExponent []) (same_Some (pos 0) z e) form.none
exponent_is (Some w) e = given (whole_sound w e)

-- What stands before the unit: sign, digits and exponent.
record Scaled (m : Measure) (l : List ℕ) (x : Numeral) : Type 0 where
  front : List ℕ
  exponent : List ℕ
  z : ℤ
  is : l ≡ front ++ exponent
  exponent_at : IsExponent exponent z
  signed : Signed m z front x

exponent_from : (m : Measure) {x : Numeral} (l : List ℕ) → with_exponent m l ≡ Some x → Scaled m l x
unfolding with_exponent
exponent_from m l e =
    let f = first_from (is 101) l 0 in
    let z = then_some (exponent_of (after f l)) (λ i. with_sign m i (before f l)) e in
    record {
      front = before f l;
      exponent = from 101 (after f l);
      z = z.0;
      is = rejoined 101 l;
      exponent_at = exponent_is (after f l) z.1;
      signed = sign_from m z.0 (before f l) z.2;
    }

-- A word that is one of the units' names.
named_is : (w : List ℕ) {m : Measure} → measure_named w ≡ Some m → IsMeasure (95 ∷ w) m
unfolding measure_named
named_is w {m} e =
    by_test (same w (ascii "m"))
    (λ t. subst (IsMeasure (95 ∷ w)) (same_Some _ m (rw t at e)) (rw (decided (same_decides w (ascii "m")) t) metres))
    (λ f.
    by_test (same w (ascii "deg"))
    (λ t. subst (IsMeasure (95 ∷ w)) (same_Some _ m (rw (f, t) at e)) (rw (decided (same_decides w (ascii "deg")) t) degrees))
    (λ g.
    by_test (same w (ascii "rad"))
    (λ t. subst (IsMeasure (95 ∷ w)) (same_Some _ m (rw (f, g, t) at e)) (rw (decided (same_decides w (ascii "rad")) t) radians))
    (λ h. absurd (none-some m (rw (f, g, h) at e)))))

measure_is : (o : Option (List ℕ)) {m : Measure} → measure_of o ≡ Some m → IsMeasure (from 95 o) m
measure_is None {m} e = subst (IsMeasure []) (same_Some _ m e) form.none
measure_is (Some w) e = named_is w e

-- ---- The whole text

-- The pieces of a text, end to end.
joined : {m : Measure} {k : List ℕ} {x : Numeral} (c : Scaled m k x) {l : List ℕ} (t : List ℕ) → l ≡ k ++ t
    → l ≡ c.signed.sign ++ (c.signed.digits ++ (c.exponent ++ t))
joined c t e =
    e ∙ ap (λ (r : List ℕ). r ++ t) (c.is ∙ ap (λ (r : List ℕ). r ++ c.exponent) c.signed.is) ∙ simp append_assoc

says : {m : Measure} {k : List ℕ} {x : Numeral} → Scaled m k x → {t : List ℕ} → IsMeasure t m → (l : List ℕ) → l ≡ k ++ t → IsNumeral l x
says c {t} u l e =
    let s = c.signed in
    let d = s.decimal in
    let p : Pieces = record { sign = s.sign; digits = s.digits; exponent = c.exponent; measure = t } in (
      p,
      subst (Parse l p) d.says
          (record {
            exponent = c.z;
            places = d.places;
            is = joined c t e;
            sign_is = s.sign_is;
            digits_are = d.is;
            exponent_is = c.exponent_at;
            measure_is = u;
            power_is = refl;
          }),
    )

pub sound : (l : List ℕ) {x : Numeral} → numeral_of l ≡ Some x → IsNumeral l x
unfolding numeral_of
sound l e =
    let f = first_from (is 95) l 0 in
    let m = then_some (measure_of (after f l)) (λ k. with_exponent k (before f l)) e in
    says (exponent_from m.0 (before f l) m.2) (measure_is (after f l) m.1) l (rejoined 95 l)
