-- The limits of an array.
use Rattle.std.specs.Prelude.{ℕ}

-- "Dim_1 to Dim_3 | 1 to 1,048,576"
abbrev pub most_dims : ℕ
most_dims = 3

abbrev pub dim_limit : ℕ
dim_limit = 1048576
