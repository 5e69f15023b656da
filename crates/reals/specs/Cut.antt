-- A list of bytes cut at a byte that was sought in it.
use Rattle.std.specs.Prelude.{List, [], ℕ, ◌+◌, take, drop, Option, None, Some}

-- What stands before the byte; all of it where there is none.
abbrev pub before : Option ℕ → List ℕ → List ℕ
before (Some i) l = take i l
before None l = l

-- What stands after the byte, if there is one.
abbrev pub after : Option ℕ → List ℕ → Option (List ℕ)
after (Some i) l = Some (drop (i + 1) l)
after None l = None

-- The bytes after it; none where it does not stand there.
abbrev pub bytes_after : Option (List ℕ) → List ℕ
bytes_after None = []
bytes_after (Some l) = l
