-- What the code keeps of a number that may be outside the bounds: all coefficients above the limit as one, and no power outside.
use Rattle.std.specs.Prelude.{cond, ℕ, ◌+◌, leb, ℤ, nat_abs, Option, None, Some}
use Rattle.scaling.specs.Limits.{coefficient_limit, power_limit}

unfoldable pub cap : ℕ → ℕ
cap n = cond (leb n coefficient_limit) n (coefficient_limit + 1)

abbrev pub capped : Option ℕ → Option ℕ
capped None = None
capped (Some n) = Some (cap n)

-- A power of ten from -22 to 22.
unfoldable pub bounded : ℤ → Option ℤ
bounded p = cond (leb (nat_abs p) power_limit) (Some p) None
