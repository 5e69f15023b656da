-- The lister's limits, and how many bytes each line of a listing takes at most.
use Rattle.std.specs.Prelude.{ℕ, ◌+◌, ◌*◌}
use Rattle.blocks.specs.Limits.{block_limit}
use Rattle.append.specs.Most.{decimal_most}
use Rattle.columns.specs.Most.{number_column, identity_column, array_most, error_most}

-- "It reads standard input, up to 65,536 bytes".
abbrev pub input_limit : ℕ
input_limit = 65536

-- ---- Columns

-- `refused`, code and position, where a description would stand: no more than that.
abbrev pub refused_most : ℕ
refused_most = 8 + error_most

-- Number, start, header and extent length, identity.
abbrev pub row_most : ℕ
row_most = decimal_most + number_column + number_column + number_column + identity_column

-- ---- Lines, with their LF

abbrev pub block_line_most : ℕ
block_line_most = row_most + array_most + 1

-- `blocks` and the count.
abbrev pub count_line_most : ℕ
count_line_most = 6 + number_column + 1

abbrev pub refused_line_most : ℕ
refused_line_most = 7 + error_most + 1

-- A buffer that has room for every listing: a first line, and a line for each block.
abbrev pub listing_room : ℕ
listing_room = count_line_most + block_line_most * block_limit
