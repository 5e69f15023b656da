-- The steps of the loop that opens a file, and what its answer says.
use Rattle.std.specs.Prelude.{◌≡◌, cond, List, ℕ, ◌≤◌, eqb, length, take, Option, None, Some, Ok, Err, IfOk}
use Rattle.scan.specs.Outcome.{Outcome, error_at, mapped}
use Rattle.blocks.specs.Judging.{block_at}
use Rattle.blocks.specs.Limits.{block_limit}
use Rattle.blocks.specs.Opening.{start_after, ended, count_matches, opened}
use Rattle.blocks.specs.declared.Accepted.{Accepted}
use Rattle.blocks.specs.declared.FileRules.{FileRules}
use Rattle.blocks.specs.declared.Row.{Row}
use Rattle.opening.specs.declared.Opened.{Opened}

abbrev pub step_by : Outcome Accepted → Outcome (Option Accepted)
step_by (Ok a) = Ok (Some a)
step_by (Err e) = Err e

-- What comes after `count` blocks, of which the last ends at `end`, but for error 13: a block, or the end of the file.
unfoldable pub step_of : List ℕ → ℕ → ℕ → FileRules → Outcome (Option Accepted)
step_of s count end r =
    let start = start_after s count r.kind end in
    cond (ended count start (length s)) (cond (count_matches r.expected count) (Ok None) (Err (error_at 15 0)))
    (cond (eqb count block_limit) (Err (error_at 14 start)) (step_by (block_at s r (eqb count 0) start)))

-- The rows of an opened file.
abbrev pub rows_of : Opened → List Row
rows_of o = take o.count o.rows

-- They are some of a whole table's.
abbrev pub IsBounded : Opened → Type 0
IsBounded o = (o.count ≤ block_limit) × (length o.rows ≡ block_limit)

-- A file that was opened, by how many rows of a table are its own.
abbrev pub counted : List Row → Outcome ℕ → Outcome Opened
counted rows (Ok n) = Ok (record { rows = rows; count = n })
counted rows (Err e) = Err e

-- The answer is that of `opened`.
pub record Opens (s : List ℕ) (r : Outcome Opened) : Type 0 where
  pub says : mapped rows_of r ≡ opened s
  pub bounded : IfOk r IsBounded
