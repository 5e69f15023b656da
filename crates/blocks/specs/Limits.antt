-- The limits of a file, and the boundary of headers where no general header gives one.
use Rattle.std.specs.Prelude.{ℕ}

-- "file over 1,073,741,824 bytes".
abbrev pub file_limit : ℕ
file_limit = 1073741824

-- "A file is 1 to 256 blocks", each a row of the table.
abbrev pub block_limit : ℕ
block_limit = 256

-- In kind 2: "else 512".
abbrev pub default_boundary : ℕ
default_boundary = 512

-- In kind 1: a header's "length need be no multiple of anything". Every length is a multiple of 1.
abbrev pub plain_boundary : ℕ
plain_boundary = 1
