-- The shift law and what follows from it, stated. Their proofs are in the files beside this one.
use Rattle.std.specs.Prelude.{None, Some, slice_get}
use mathlib.Core.Path.{◌≡◌}
use mathlib.Core.Bool.{Bool}
use mathlib.Core.List.{List, ◌++◌, map, Memᴰ}
use Prim.Native.Nat.{ℕ, ◌+◌, ◌≤◌}
use lib.ListN.{length, take, drop}
use Rattle.header.specs.Entries.{entries}
use Rattle.header.specs.Entry.{Entry, body_of}
use Rattle.header.specs.Frame.{header_at}
use Rattle.header.specs.Statements.{statements_of}
use Rattle.header.specs.declared.Header.{Header}
use Rattle.header.specs.declared.Statement.{Statement}
use Rattle.blocks.specs.Grammar.{Rules, HasHeader, IsBlock, Partition}
use Rattle.blocks.specs.Judging.{block_at}
use Rattle.blocks.specs.Places.{kind_1, kind_2, StartsWithEdfKey}
use Rattle.blocks.specs.declared.FileRules.{FileRules}
use Rattle.blocks.specs.declared.Row.{Row}
use Rattle.locality.specs.Blocks.{AcceptedFile, general_header, OfKind, Joinable, joined_rows, HeaderAlone, AloneBlock}
use Rattle.locality.specs.Moved.{moved_outcome, moved_header, moved_statement, moved_entry, moved_row, moved_accepted}
use Rattle.locality.proofs.Alone
use Rattle.locality.proofs.AloneBlocks
use Rattle.locality.proofs.BlockShift
use Rattle.locality.proofs.BlockUp
use Rattle.locality.proofs.FrameShift
use Rattle.locality.proofs.HeaderUp
use Rattle.locality.proofs.Joined
use Rattle.locality.proofs.KindLaws
use Rattle.locality.proofs.Offsets
use Rattle.locality.proofs.StatementShift

-- ---- Behind another list of bytes: the same answer, with its offsets moved; errors 3 to 12 included

module _ (p s : List ℕ) where
  pub header_shift : (at : ℕ) → header_at (p ++ s) (length p + at) ≡ moved_outcome (length p) (moved_header (length p)) (header_at s at)
  header_shift = FrameShift.header_shift p s

  pub statements_shift : (start : ℕ) (h : Header)
      → statements_of (p ++ s) (length p + start) (moved_header (length p) h) ≡ moved_outcome (length p) (map (moved_statement (length p))) (statements_of s start h)
  statements_shift = StatementShift.statements_of_shift p s

  pub entries_shift : (h : Header) (ts : List Statement)
      → entries (body_of (p ++ s) (moved_header (length p) h)) (map (moved_statement (length p)) ts) ≡ map (moved_entry (length p)) (entries (body_of s h) ts)
  entries_shift = HeaderUp.entries_up p s

  pub block_shift : (given : FileRules) (first : Bool) (at : ℕ)
      → block_at (p ++ s) given first (length p + at) ≡ moved_outcome (length p) (moved_accepted (length p)) (block_at s given first at)
  block_shift = BlockShift.block_shift p s

  -- By the grammar: a header, and a data block.
  pub header_behind : {at : ℕ} {h : Header} {ts : List Statement} {es : List Entry} → HasHeader s at h ts es
      → HasHeader (p ++ s) (length p + at) (moved_header (length p) h) (map (moved_statement (length p)) ts) (map (moved_entry (length p)) es)
  header_behind = HeaderUp.has_up p s

  pub block_behind : {r : Rules} {at next : ℕ} {row : Row} → row.kind ≡ 1 → IsBlock s r at row next
      → IsBlock (p ++ s) r (length p + at) (moved_row (length p) row) (length p + next)
  block_behind = BlockUp.block_up p s

-- ---- From an offset on: what stands there is what the rest of the file is judged to be

module _ (s : List ℕ) (a : ℕ) (inside : a ≤ length s) where
  pub header_from : header_at s a ≡ moved_outcome a (moved_header a) (header_at (drop a s) 0)
  header_from = Offsets.header_from s a inside

  pub statements_from_lem : (h : Header) → statements_of s a (moved_header a h) ≡ moved_outcome a (map (moved_statement a)) (statements_of (drop a s) 0 h)
  statements_from_lem = Offsets.statements_from_lem s a inside

  pub entries_from_lem : (h : Header) (ts : List Statement)
      → entries (body_of s (moved_header a h)) (map (moved_statement a) ts) ≡ map (moved_entry a) (entries (body_of (drop a s) h) ts)
  entries_from_lem = Offsets.entries_from_lem s a inside

  pub block_from : (given : FileRules) (first : Bool) → block_at s given first a ≡ moved_outcome a (moved_accepted a) (block_at (drop a s) given first 0)
  block_from = Offsets.block_from s a inside

-- As many bytes as hold a header are enough.
pub header_alone : {s : List ℕ} {a : ℕ} {h : Header} {ts : List Statement} {es : List Entry} → HasHeader s a h ts es → (m : ℕ) → h.length ≤ m
    → HeaderAlone (take m (drop a s)) a h ts es
header_alone = Alone.header_alone

-- ---- Two concatenated files of kind 1

-- They are accepted, with the rows of the first and those of the second with their starts moved by the first file's length.
pub files_joined : (s t : List ℕ) {rows others : List Row} → Joinable s t rows others → AcceptedFile (s ++ t) (joined_rows (length s) rows others)
files_joined = Joined.files_joined

-- A file is of kind 1 if its table has a data block without an identity.
pub kind_by_row : {s : List ℕ} {rows : List Row} → Partition s rows → {row : Row} → Memᴰ row rows → row.kind ≡ 1 → row.instance ≡ 0
    → OfKind kind_1 s
kind_by_row = KindLaws.kind_by_row

-- ---- A block as a file of its own

-- In a file without a general header: every block of kind 2, and every block of kind 1 whose header does not start with an EDF_ key.
module _ {s : List ℕ} {rows : List Row} (file : AcceptedFile s rows) (no_general : general_header s rows ≡ None) (k : ℕ) {row : Row}
    (at : slice_get rows k ≡ Some row) where
  pub kind_2_alone : OfKind kind_2 s → AloneBlock s k row
  kind_2_alone = AloneBlocks.kind_2_alone file no_general k at

  pub kind_1_alone : OfKind kind_1 s
      → ((h : Header) (ts : List Statement) (es : List Entry) → HasHeader s row.start h ts es → StartsWithEdfKey es → ⊥) → AloneBlock s k row
  kind_1_alone = AloneBlocks.kind_1_alone file no_general k at
