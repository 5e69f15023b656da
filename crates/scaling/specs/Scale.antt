-- A whole number times a power of ten, as a 64-bit float.
use Rattle.std.specs.Prelude.{Bool, cond, false, ℕ, suc, ◌*◌, ◌^◌, ℤ, pos, negsuc, Float}
use Rattle.std.specs.Float.{binary64}
use Rattle.std.specs.Float.Ieee.{round, neg}
use Rattle.std.specs.Float.Ieee.Exact.{HasValue}

-- The float x is the whole number n with the sign s, exactly: finite, and n in size.
abbrev pub Holds : Float → Bool → ℕ → Type 0
Holds x s n = HasValue x s n 1

-- Ten to the power p is the fraction numerator p / denominator p.
abbrev pub numerator : ℤ → ℕ
numerator (pos k) = 10 ^ k
numerator (negsuc k) = 1

abbrev pub denominator : ℤ → ℕ
denominator (pos k) = 1
denominator (negsuc k) = 10 ^ suc k

-- "the sign put on last (so -0 is minus zero)".
abbrev pub with_sign : Bool → Float → Float
with_sign negative x = cond negative (neg x) x

-- "The answer is then one multiplication or division of two numbers held exactly, rounded once, and the sign put on last": the 64-bit
-- float nearest to c times ten to the power p, a tie to the even one, then the sign. The fraction that is rounded is the exact one.
unfoldable pub scaled : Bool → ℕ → ℤ → Float
scaled negative c p = with_sign negative (round binary64 false (c * numerator p) (denominator p))
