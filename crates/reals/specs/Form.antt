-- The form of a real number, as a relation between a text, its pieces and what they say: "optional sign, digits with at most one point, at
-- least one digit, optional `e` and a whole number, then optionally an underscore and m, deg or rad" (02, No. 2). Nothing here says how a
-- text is read.
use Rattle.std.specs.Prelude.{◌≡◌, Bool, true, false, List, [], ◌∷◌, ◌++◌, ℕ, ◌≤◌, ℤ, pos, nat_abs, ◌-ℤ◌, length}
use Rattle.scan.specs.Byte.{ascii}
use Rattle.lexical.specs.Whole.{Digits, IsWhole}
use Rattle.scaling.specs.Scale.{scaled}
use Rattle.reals.specs.Measure.{measured_in}
use Rattle.reals.specs.Numeral.{Numeral}
use Rattle.reals.specs.declared.Measure.{Measure}
use Rattle.reals.specs.declared.Measure.TheVariants as measure
use Rattle.reals.specs.declared.Real.{Real}

-- ---- The pieces

-- "optional sign": `+` is 43 and `-` 45.
pub data IsSign : List ℕ → Bool → Type 0 where
  none : IsSign [] false
  plus : IsSign (43 ∷ []) false
  minus : IsSign (45 ∷ []) true

-- "digits with at most one point, at least one digit": what the digits stand for "with the point taken out", and how many stand after
-- the point, 46.
pub data IsDecimal : List ℕ → ℕ → ℕ → Type 0 where
  plain : {l : List ℕ} {n : ℕ} → Digits l n → IsDecimal l n 0
  pointed : (whole fraction : List ℕ) {n : ℕ} → Digits (whole ++ fraction) n → IsDecimal (whole ++ (46 ∷ fraction)) n (length fraction)

-- "optional `e` and a whole number": `e` is 101.
pub data IsExponent : List ℕ → ℤ → Type 0 where
  none : IsExponent [] (pos 0)
  given : {l : List ℕ} {z : ℤ} → IsWhole l z → IsExponent (101 ∷ l) z

-- "optionally an underscore and m, deg or rad".
pub data IsMeasure : List ℕ → Measure → Type 0 where
  none : IsMeasure [] measure.Bare
  metres : IsMeasure (ascii "_m") measure.Metres
  degrees : IsMeasure (ascii "_deg") measure.Degrees
  radians : IsMeasure (ascii "_rad") measure.Radians

-- ---- The whole text

pub record Pieces : Type 0 where
  pub sign : List ℕ
  pub digits : List ℕ
  pub exponent : List ℕ
  pub measure : List ℕ

-- The text is these pieces, end to end, and they say x: "the resulting power of ten" is the exponent less the digits after the point.
pub record Parse (l : List ℕ) (p : Pieces) (x : Numeral) : Type 0 where
  pub exponent : ℤ
  pub places : ℕ
  pub is : l ≡ p.sign ++ (p.digits ++ (p.exponent ++ p.measure))
  pub sign_is : IsSign p.sign x.negative
  pub digits_are : IsDecimal p.digits x.coefficient places
  pub exponent_is : IsExponent p.exponent exponent
  pub measure_is : IsMeasure p.measure x.measure
  pub power_is : x.power ≡ exponent -ℤ pos places

-- A text of the form, which says x.
abbrev pub IsNumeral : List ℕ → Numeral → Type 0
IsNumeral l x = (p : Pieces) × Parse l p x

-- ---- The number

-- "With the point taken out the digits are at most 9,007,199,254,740,992, and the resulting power of ten lies from -22 to 22."
pub record InBounds (x : Numeral) : Type 0 where
  pub coefficient : x.coefficient ≤ 9007199254740992
  pub power : nat_abs x.power ≤ 22

-- A text that stands for the real number r: its float is the written number rounded once, in the unit written.
pub record IsReal (l : List ℕ) (r : Real) : Type 0 where
  pub numeral : Numeral
  pub form : IsNumeral l numeral
  pub bounds : InBounds numeral
  pub value : r ≡ measured_in numeral.measure (scaled numeral.negative numeral.coefficient numeral.power)

-- A text that has the form and is outside the bounds.
pub record IsOutOfBounds (l : List ℕ) : Type 0 where
  pub numeral : Numeral
  pub form : IsNumeral l numeral
  pub outside : InBounds numeral → ⊥
