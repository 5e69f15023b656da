-- Whitespace.
use Rattle.std.specs.Prelude.{Bool, not, ◌||◌, ◌&&◌, List, ℕ, leb, eqb, length, Option, Some, None}
use Rattle.scan.specs.Search.{first_from}

-- 01's white: "White is space, tab, LF, CR, VT, FF." Space is 32; 9 to 13 are tab, LF, VT, FF and CR.
unfoldable pub whitespace : ℕ → Bool
whitespace b = eqb b 32 || (leb 9 b && leb b 13)

-- A byte that is no whitespace.
unfoldable pub visible : ℕ → Bool
visible b = not (whitespace b)

-- The offset that was found, or another.
abbrev pub found_or : ℕ → Option ℕ → ℕ
found_or other (Some i) = i
found_or other None = other

-- The first offset from `at` on whose byte is no whitespace, or the length where there is none.
unfoldable pub visible_from : List ℕ → ℕ → ℕ
visible_from s at = found_or (length s) (first_from visible s at)
