-- The table of a file's blocks as numbers, seven a row.
use Rattle.std.specs.Prelude.{List, [], ◌∷◌, ◌++◌, ℕ, Ok, Err}
use Rattle.scan.specs.Outcome.{Outcome}
use Rattle.scan.specs.Buffer.{over}
use Rattle.blocks.specs.declared.Row.{Row}
use Rattle.records.specs.Numbers.{row_numbers}

-- The numbers of rows, one after the other.
unfoldable pub all_numbers : List Row → List ℕ
all_numbers [] = []
all_numbers (r ∷ rows) = row_numbers r ++ all_numbers rows

-- The lent numbers afterwards: those of the rows are laid over their front, and in an error they are what they were.
abbrev pub numbers_after : Outcome (List Row) → List ℕ → List ℕ
numbers_after (Ok rows) before = over (all_numbers rows) before
numbers_after (Err e) before = before
