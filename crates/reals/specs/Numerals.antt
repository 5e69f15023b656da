-- What a text says as a real number, read piece by piece from the outside in. No piece holds the byte at which the next is cut off.
use Rattle.std.specs.Prelude.{Bool, true, false, cond, List, ◌++◌, ℕ, eqb, ℤ, pos, ◌-ℤ◌, length, drop, Option, None, Some, option_map}
use Rattle.scan.specs.Byte.{byte}
use Rattle.scan.specs.Search.{first_from, is}
use Rattle.text.specs.Number.{natural, whole_number}
use Rattle.reals.specs.Cut.{before, after, bytes_after}
use Rattle.reals.specs.Measure.{measure_named}
use Rattle.reals.specs.Numeral.{Numeral, numeral}
use Rattle.reals.specs.declared.Measure.{Measure}
use Rattle.reals.specs.declared.Measure.TheVariants as measure

-- What is made of a value that is there.
abbrev pub and_then : {A B : Type 0} → Option A → (A → Option B) → Option B
and_then None go = None
and_then (Some x) go = go x

-- "digits with at most one point, at least one digit": those before and those after the point, as one number. The power of ten is the
-- exponent less the number of digits after the point.
unfoldable pub with_digits : Measure → Bool → ℤ → List ℕ → List ℕ → Option Numeral
with_digits m negative exponent whole fraction =
    option_map (numeral m negative (exponent -ℤ pos (length fraction))) (natural (whole ++ fraction))

-- The point is 46.
unfoldable pub without_sign : Measure → Bool → ℤ → List ℕ → Option Numeral
without_sign m negative exponent l =
    let p = first_from (is 46) l 0 in with_digits m negative exponent (before p l) (bytes_after (after p l))

-- "optional sign": `-`, 45, or `+`, 43.
unfoldable pub with_sign : Measure → ℤ → List ℕ → Option Numeral
with_sign m exponent l =
    cond (eqb (byte l 0) 45) (without_sign m true exponent (drop 1 l))
    (cond (eqb (byte l 0) 43) (without_sign m false exponent (drop 1 l)) (without_sign m false exponent l))

-- "optional `e` and a whole number": `e` is 101.
abbrev pub exponent_of : Option (List ℕ) → Option ℤ
exponent_of None = Some (pos 0)
exponent_of (Some w) = whole_number w

unfoldable pub with_exponent : Measure → List ℕ → Option Numeral
with_exponent m l =
    let e = first_from (is 101) l 0 in and_then (exponent_of (after e l)) (λ exponent. with_sign m exponent (before e l))

-- "then optionally an underscore and m, deg or rad": `_` is 95.
abbrev pub measure_of : Option (List ℕ) → Option Measure
measure_of None = Some measure.Bare
measure_of (Some w) = measure_named w

unfoldable pub numeral_of : List ℕ → Option Numeral
numeral_of l = let u = first_from (is 95) l 0 in and_then (measure_of (after u l)) (λ m. with_exponent m (before u l))
