-- What "rounded" means, in whole numbers alone: no 64-bit float lies nearer. Nothing here speaks of how a number is rounded.
use Rattle.std.specs.Prelude.{◌≡◌, ℕ, suc, ◌+◌, ◌-◌, ◌*◌, ◌^◌, ◌%◌, ◌≤◌, ◌<◌, T, Bool, Float}
use Rattle.std.specs.Float.{Format}
use Rattle.std.specs.Float.Ieee.{prec, low, fits}
use Rattle.std.specs.Float.Ieee.Exact.{HasValue}
use Rattle.std.specs.Float.Ieee.Positive.{num, den}
use Rattle.std.specs.Float.Ieee.Scale.{finite}

-- How far two numbers are apart.
abbrev pub distance : ℕ → ℕ → ℕ
distance x y = (x - y) + (y - x)

-- The size of a finite float x is num x / den x. How far it lies from a / b, times b * den x.
abbrev pub deviation : Float → ℕ → ℕ → ℕ
deviation x a b = distance (num x * b) (a * den x)

-- x is as near to a / b as any value of the format, both taken without their signs.
abbrev pub Nearest : Format → Float → ℕ → ℕ → Type 0
Nearest f x a b = (y : Float) → T (fits f y) → T (finite y) → deviation x a b * den y ≤ deviation y a b * den x

-- In units of 2^-low, the least step of the format, a / b lies just halfway between q * 2^(j + 1) and (q + 1) * 2^(j + 1), where q has all
-- the binary digits of the format: between two neighbours.
pub record Halfway (f : Format) (a b q j : ℕ) : Type 0 where
  pub enough : 2 ^ prec f ≤ q * 2
  pub few : q < 2 ^ prec f
  pub midway : a * 2 ^ low f ≡ (q * 2 + 1) * 2 ^ j * b

-- The float x with the sign s is the one of these two neighbours whose last digit is even.
abbrev pub IsEven : Format → Float → Bool → ℕ → ℕ → Type 0
IsEven f x s q j = HasValue x s ((q + q % 2) * 2 ^ suc j) (2 ^ low f)
