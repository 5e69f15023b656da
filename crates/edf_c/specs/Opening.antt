-- What the call that opens a file promises by the grammar, for a table that is lent as numbers.
use Rattle.std.specs.Prelude.{◌≡◌, ◌≢◌, List, ℕ, ◌/◌, length}
use Rattle.scan.specs.Buffer.{over}
use Rattle.edf.specs.Opening.{Opens}
use Rattle.records.specs.Table.{all_numbers}

-- Opening the file s into numbers that held `before`, seven a row, gives a code, the numbers for the count of blocks and the position of
-- an error, and leaves `after`: demand 3, as `edf::open` keeps it. Code 0 with the count is the answer, another code with the position the
-- error.
abbrev pub OpensNumbers : List ℕ → List ℕ → ℕ → ℕ → ℕ → List ℕ → Type 0
OpensNumbers s before code count position after =
    Opens s (length before / 7) (λ n. (code ≡ 0) × (count ≡ n)) (λ e. (code ≢ 0) × ((code ≡ e.code) × (position ≡ e.position)))
    (λ rows. after ≡ over (all_numbers rows) before)
