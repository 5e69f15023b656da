-- "With the point taken out the digits are at most 9,007,199,254,740,992, and the resulting power of ten lies from -22 to 22" (02, No. 2).
use Rattle.std.specs.Prelude.{ℕ, ◌^◌}

-- 9,007,199,254,740,992.
abbrev pub coefficient_limit : ℕ
coefficient_limit = 2 ^ 53

abbrev pub power_limit : ℕ
power_limit = 22
