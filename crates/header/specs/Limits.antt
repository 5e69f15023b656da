-- The limits of a header.
use Rattle.std.specs.Prelude.{ℕ}

-- "at most 65,536 bytes".
abbrev pub header_limit : ℕ
header_limit = 65536
