-- The units of real numbers: "a bare number, metres, degrees or radians, each carrying its 64-bit float" (02, No. 2).
use Rattle.std.specs.Prelude.{cond, List, ℕ, Float, Option, None, Some}
use Rattle.scan.specs.Byte.{ascii, same}
use Rattle.reals.specs.declared.Measure.{Measure}
use Rattle.reals.specs.declared.Measure.TheVariants as measure
use Rattle.reals.specs.declared.Real.{Real}
use Rattle.reals.specs.declared.Real.TheVariants as real

-- "m, deg or rad".
unfoldable pub measure_named : List ℕ → Option Measure
measure_named w =
    cond (same w (ascii "m")) (Some measure.Metres)
    (cond (same w (ascii "deg")) (Some measure.Degrees) (cond (same w (ascii "rad")) (Some measure.Radians) None))

-- A float in a unit.
abbrev pub measured_in : Measure → Float → Real
measured_in measure.Bare x = real.Number x
measured_in measure.Metres x = real.Metres x
measured_in measure.Degrees x = real.Degrees x
measured_in measure.Radians x = real.Radians x

-- The number of the unit, and the float.
abbrev pub unit_of : Real → ℕ
unit_of (real.Number x) = 0
unit_of (real.Metres x) = 1
unit_of (real.Degrees x) = 2
unit_of (real.Radians x) = 3

abbrev pub float_of : Real → Float
float_of (real.Number x) = x
float_of (real.Metres x) = x
float_of (real.Degrees x) = x
float_of (real.Radians x) = x
