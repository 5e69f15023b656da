-- The real number that a text stands for: "Refusals: 18 for bad form, then 27 outside those bounds" (02, No. 2).
use Rattle.std.specs.Prelude.{Bool, ◌&&◌, List, ℕ, leb, nat_abs, Option, Ok}
use Rattle.scan.specs.Outcome.{Outcome, require, present, ◌>>=◌, ◌>>◌}
use Rattle.scaling.specs.Limits.{coefficient_limit, power_limit}
use Rattle.scaling.specs.Scale.{scaled}
use Rattle.reals.specs.Measure.{measured_in}
use Rattle.reals.specs.Numeral.{Numeral}
use Rattle.reals.specs.Numerals.{numeral_of}
use Rattle.reals.specs.declared.Real.{Real}

-- "With the point taken out the digits are at most 9,007,199,254,740,992, and the resulting power of ten lies from -22 to 22."
abbrev pub is_bounded : Numeral → Bool
is_bounded x = leb x.coefficient coefficient_limit && leb (nat_abs x.power) power_limit

-- Its float, rounded once, in its unit.
abbrev pub value_in : Numeral → Real
value_in x = measured_in x.measure (scaled x.negative x.coefficient x.power)

unfoldable pub judged : Option Numeral → Outcome Real
judged o = do
  x ← present o 18 0
  require (is_bounded x) 27 0
  Ok (value_in x)

unfoldable pub real_of : List ℕ → Outcome Real
real_of l = judged (numeral_of l)
