-- A real number as numbers that the caller lends: the number of its unit, and its float.
use Rattle.std.specs.Prelude.{ℕ, Float}
use Rattle.reals.specs.Measure.{unit_of, float_of}
use Rattle.reals.specs.declared.Real.{Real}

pub record UnitAndFloat : Type 0 where
  pub unit : ℕ
  pub value : Float

abbrev pub unit_and_float : ℕ → Float → UnitAndFloat
unit_and_float unit value = record { unit = unit; value = value }

-- The numbers of a real number: the unit is 0 for a bare number, 1 for metres, 2 for degrees, 3 for radians.
abbrev pub real_numbers : Real → UnitAndFloat
real_numbers r = unit_and_float (unit_of r) (float_of r)
