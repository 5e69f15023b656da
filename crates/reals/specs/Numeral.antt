-- What a text says as a real number, "000's double float" (02, No. 2), before it is bounded and rounded.
use Rattle.std.specs.Prelude.{Bool, ℕ, ℤ}
use Rattle.reals.specs.declared.Measure.{Measure}

-- A unit, a sign, "the digits with the point taken out", and "the resulting power of ten".
pub record Numeral : Type 0 where
  pub measure : Measure
  pub negative : Bool
  pub coefficient : ℕ
  pub power : ℤ

abbrev pub numeral : Measure → Bool → ℤ → ℕ → Numeral
numeral m negative power c = record { measure = m; negative = negative; coefficient = c; power = power }
