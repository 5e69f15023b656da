-- How many bytes the lines of a header take at most.
use Rattle.std.specs.Prelude.{ℕ, ◌+◌, ◌*◌}
use Rattle.append.specs.Most.{decimal_most, identity_most, type_most, order_most}

-- The line of a key and a value: three bytes between them, four after them.
abbrev pub line_length : ℕ → ℕ → ℕ
line_length key value = key + value + 7

abbrev pub number_line_most : ℕ → ℕ
number_line_most key = line_length key decimal_most

-- EDF_DataBlockID
abbrev pub identity_line_most : ℕ
identity_line_most = line_length 15 identity_most

-- ByteOrder
abbrev pub order_line_most : ℕ
order_line_most = line_length 9 order_most

-- DataType
abbrev pub type_line_most : ℕ
type_line_most = line_length 8 type_most

-- Dim_1 to Dim_3
abbrev pub dim_lines_most : ℕ
dim_lines_most = 3 * number_line_most 5
