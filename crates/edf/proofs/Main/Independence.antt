-- The main theorems about the independence of blocks and about concatenated files (02, No. 3), stated of the calls as Main states them. `AcceptedFile`, `Joinable`
-- and `AloneBlock` say of which files (crates/locality/specs/Blocks), `SameBlock`, `MovedBlock` and `MovedPlainBlock` of which
-- blocks of two files (crates/keyword/specs/Shared), `SameAnswers`, `MovedAnswersFrom` and `MovedAnswers` what each call answers
-- (specs/Independence).
use Rattle.std.specs.Prelude.{None, Some, ℕ, Ok, slice_get}
use Rattle.scan.specs.Outcome.{Outcome}
use mathlib.Core.Path.{◌≡◌, subst}
use mathlib.Core.List.{List, [], ◌∷◌, ◌++◌}
use Prim.Native.Nat.{ℕ, ◌+◌, ◌≤◌}
use native.Mathlib.Omega.{arith}
use lib.ListN.{length, take, drop}
-- ---- The call that opens a file
use Rattle.blocks.specs.declared.Row.{Row}
use Rattle.edf.specs.Calls.{Open}
use Rattle.edf.specs.Opening.{Allowed}
-- ---- Files and blocks, and what is answered of them
use Rattle.blocks.specs.Grammar.{Partition}
use Rattle.blocks.specs.Limits.{block_limit}
use Rattle.locality.specs.Blocks.{AcceptedFile, block_bytes, general_header, Joinable, joined_rows, AloneBlock}
use Rattle.locality.specs.Moved.{starting_at}
use Rattle.keyword.specs.Shared.{SameBlock, MovedBlock, MovedPlainBlock}
use Rattle.edf.specs.Independence.{SameAnswers, MovedAnswersFrom, MovedAnswers}
-- ---- Laws
use Rattle.locality.proofs.Joined.{joined_count}
use Rattle.locality.proofs.Main as locality
use Rattle.independence.proofs.Files.{first_shared, second_shared, alone_shared, bytes_small}
use Rattle.edf.proofs.AnswerLaws as laws
use Rattle.edf.proofs.CallLaws.{opens_rows}
-- ---- Which blocks are files of their own: in a file without a general header all of kind 2, and those of kind 1 that do not start with an
-- EDF_ key
pub use Rattle.locality.proofs.Main.{kind_2_alone, kind_1_alone}

-- ---- A file that `open` accepts, with the rows that it left in the table

pub opened_accepted : {s : List ℕ} {before after : List Row} {n : ℕ} → Allowed s (length before) → Open s before (Ok n) after
    → AcceptedFile s (take n after)
opened_accepted = laws.opened_accepted

-- ---- A block of two files

-- "if two accepted files have the same row for a block and the same bytes in it, and the same general header or none in either, every value,
-- description and pixel of that block is the same"
pub same_block : {s t : List ℕ} {k j : ℕ} → SameBlock s t k j → SameAnswers s t k j
same_block b = laws.same_answers b.1

-- A block that starts n bytes later in the other file: the spans of its own header and of its array are moved, and all else is the same.
pub moved_block : (n : ℕ) {s t : List ℕ} {k j : ℕ} (b : MovedBlock n s t k j) → MovedAnswersFrom b.0.start n s t k j
moved_block n b = laws.moved_answers_from n b.1

-- Without a general header all spans are.
pub moved_plain_block : (n : ℕ) {s t : List ℕ} {k j : ℕ} → MovedPlainBlock n s t k j → MovedAnswers n s t k j
moved_plain_block n b = laws.moved_answers n b.1 b.2

-- ---- Two concatenated files

-- "two accepted files of kind 1 laid end to end, within the limits, are accepted, and the table is the first list of rows joined to the second
-- with its starts moved by the first file's length"
module _ (s t : List ℕ) {rows others : List Row} (j : Joinable s t rows others) where
  pub joined_accepted : AcceptedFile (s ++ t) (joined_rows (length s) rows others)
  joined_accepted = locality.files_joined s t j

  pub joined_opens : {table left : List Row} {r : Outcome ℕ} → block_limit ≤ length table → Open (s ++ t) table r left
      → (r ≡ Ok (length rows + length others)) × (left ≡ joined_rows (length s) rows others ++ drop (length rows + length others) table)
  joined_opens h c =
      rw (joined_count (length s) rows others) at (opens_rows joined_accepted.partition joined_accepted.small h c)

  -- A block of either file keeps its answers.
  pub joined_first : (k : ℕ) {row : Row} → slice_get rows k ≡ Some row → SameAnswers s (s ++ t) k k
  joined_first k at = same_block (first_shared s t j k at)

  pub joined-second : (k : ℕ) {row : Row} → slice_get others k ≡ Some row → MovedAnswers (length s) t (s ++ t) k (length rows + k)
  joined-second k at = moved_plain_block (length s) (second_shared s t j k at)

-- ---- A block as a file of its own

-- The block's bytes alone answer as the block in its file, but for spans, which are moved by the block's start.
pub alone_answers : {s : List ℕ} {k : ℕ} {row : Row} → AloneBlock s k row → MovedAnswers row.start (block_bytes s row) s 0 k
alone_answers {row = row} a = moved_plain_block row.start (alone_shared a)

-- It is one where `open` says so of its bytes: one block, with the same row but for its start.
pub opened_alone : {s : List ℕ} {rows : List Row} → AcceptedFile s rows → general_header s rows ≡ None → (k : ℕ) {row : Row} → slice_get rows k ≡ Some row
    → {before after : List Row} → block_limit ≤ length before → Open (block_bytes s row) before (Ok 1) after → take 1 after ≡ starting_at 0 row ∷ []
    → AloneBlock s k row
opened_alone {s} {rows} file g k {row} at h c e =
    let allowed : Allowed (block_bytes s row) _ = record { file = omega (arith, bytes_small s row, file.small); table = h } in
    record { rows = rows; file = file; at = at; no_general = g; alone = subst (Partition (block_bytes s row)) e (opened_accepted allowed c).partition }
