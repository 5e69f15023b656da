-- How long a written file is at most.
use Rattle.std.specs.Prelude.{ℕ}

-- What a buffer has room for besides the pixels: the header and the filling of every file.
abbrev pub header_room : ℕ
header_room = 4096
