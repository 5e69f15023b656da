-- Opening a file, as a function: its rows, or an error with 01's code and position. Block by block, "14 before anything else
-- of its block; 15 last".
use Rattle.std.specs.Prelude.{Bool, false, cond, not, ◌&&◌, ◌||◌, List, [], ◌∷◌, ◌++◌, ℕ, zero, suc, eqb, leb, ℤ, pos, negsuc, length, drop, Ok, Err}
use Rattle.scan.specs.Outcome.{Outcome, refused, require, ◌>>=◌, ◌>>◌}
use Rattle.text.specs.Whitespace.{visible_from}
use Rattle.blocks.specs.Judging.{block_at, proves_kind2, rules_with}
use Rattle.blocks.specs.Limits.{file_limit, block_limit, plain_boundary}
use Rattle.blocks.specs.declared.FileRules.{FileRules}
use Rattle.blocks.specs.declared.Row.{Row}

-- ---- 13: "identity twice"

unfoldable pub same_number : ℤ → ℤ → Bool
same_number (pos m) (pos n) = eqb m n
same_number (pos m) (negsuc n) = false
same_number (negsuc m) (pos n) = false
same_number (negsuc m) (negsuc n) = eqb m n

unfoldable pub same_identity : Row → Row → Bool
same_identity x y =
    eqb x.instance y.instance && (same_number x.sequence y.sequence && same_number x.memory y.memory)

unfoldable pub identity_among : Row → List Row → Bool
identity_among x [] = false
identity_among x (y ∷ ys) = same_identity y x || identity_among x ys

-- A row without an identity, whose instance is 0, repeats none.
unfoldable pub repeats : List Row → Row → Bool
repeats rows x = not (eqb x.instance 0) && identity_among x rows

-- ---- Where blocks start

-- The first block: "Until the first header has passed check 6 it is judged as kind 1, its place and its 65,536 bytes counted from the
-- brace"; "if the first header proves kind 2", the block starts at 0.
unfoldable pub first_start : List ℕ → ℕ
first_start s = let at = visible_from s 0 in cond (proves_kind2 s at) 0 at

-- The next block of a file of a kind, after one that ends at `end`: in kind 1 behind whitespace.
unfoldable pub next_start : List ℕ → ℕ → ℕ → ℕ
next_start s kind end = cond (eqb kind 1) (visible_from s end) end

-- The block after `count` others.
unfoldable pub start_after : List ℕ → ℕ → ℕ → ℕ → ℕ
start_after s count kind end = cond (eqb count 0) (first_start s) (next_start s kind end)

-- ---- The file

-- The file ends where the next block would start, at `start`; not before its first block.
abbrev pub ended : ℕ → ℕ → ℕ → Bool
ended count start fileLength = not (eqb count 0) && eqb start fileLength

-- 15: "EDF_DataBlocks does not match".
unfoldable pub count_matches : ℕ → ℕ → Bool
count_matches expected count = eqb expected 0 || eqb count (suc expected)

-- The rows of the file from `end` on, behind those of the blocks before, with at most n blocks more to look at. 14: "bytes left
-- after 256 blocks"; it "in kind 1 needs a non-white byte left, and its place is that byte".
unfoldable pub opened_from : ℕ → List ℕ → List Row → ℕ → FileRules → Outcome (List Row)
opened_from zero s rows end r = refused 14 end
opened_from (suc n) s rows end r =
    let start = start_after s (length rows) r.kind end in
    cond (ended (length rows) start (length s))
    (require (count_matches r.expected (length rows)) 15 0 >> Ok rows)
    (do
      require (not (eqb (length rows) block_limit)) 14 start
      b ← block_at s r (eqb (length rows) 0) start
      require (not (repeats rows b.row)) 13 b.row.start
      opened_from n s (rows ++ (b.row ∷ [])) b.next b.rules)

-- The rows of a file: 256 blocks, and one look more to find the end.
unfoldable pub opened : List ℕ → Outcome (List Row)
opened s = opened_from (suc block_limit) s [] 0 (rules_with 1 plain_boundary 0)

-- For a call on a block: 1, "file over 1,073,741,824 bytes", then the rest of opening.
unfoldable pub opened_file : List ℕ → Outcome (List Row)
opened_file s = require (leb (length s) file_limit) 1 0 >> opened s

-- For a table of n rows: 1, then 2, "table under 256 rows", then the rest.
unfoldable pub opened_into : ℕ → List ℕ → Outcome (List Row)
opened_into n s = do
  require (leb (length s) file_limit) 1 0
  require (leb block_limit n) 2 0
  opened s

-- What the call answers: the number of rows.
abbrev pub count_of : Outcome (List Row) → Outcome ℕ
count_of (Ok rows) = Ok (length rows)
count_of (Err e) = Err e

-- The table afterwards: "Rows past the last block keep what they held", and an error changes nothing.
unfoldable pub table_after : Outcome (List Row) → List Row → List Row
table_after (Ok rows) table = rows ++ drop (length rows) table
table_after (Err e) table = table
