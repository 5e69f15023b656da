-- Accepted files, two of them concatenated, and a block as a file of its own (02, No. 3). Facts about the files' bytes.
use Rattle.std.specs.Prelude.{◌≡◌, cond, List, [], ◌∷◌, ◌++◌, map, ℕ, ◌+◌, ◌≤◌, eqb, length, take, Option, None, Some, slice_get}
use Rattle.scan.specs.Byte.{bytes_at}
use Rattle.header.specs.Entry.{Entry}
use Rattle.header.specs.declared.Header.{Header}
use Rattle.header.specs.declared.Statement.{Statement}
use Rattle.blocks.specs.Grammar.{HasHeader, HeadsFile, Partition}
use Rattle.blocks.specs.Limits.{file_limit, block_limit}
use Rattle.blocks.specs.Places.{Kind, kind_1, kind_2, StartsWithEdfKey}
use Rattle.blocks.specs.declared.Row.{Row}
use Rattle.locality.specs.Moved.{moved_header, moved_statement, moved_entry, starting_at, moved_row}

-- An accepted file: it has a partition, with these rows, and is within the limit.
pub record AcceptedFile (s : List ℕ) (rows : List Row) : Type 0 where
  pub small : length s ≤ file_limit
  pub partition : Partition s rows

-- The bytes of a block: its header and its data.
abbrev pub block_bytes : List ℕ → Row → List ℕ
block_bytes s row = bytes_at s (record { offset = row.start; length = row.header + row.size })

-- The bytes of the general header, if the first block is a general block.
abbrev pub general_header : List ℕ → List Row → Option (List ℕ)
general_header s [] = None
general_header s (first ∷ rows) = cond (eqb first.kind 0) (Some (take first.header s)) None

-- ---- Two concatenated files

-- "A file is of kind 2 exactly if its first header has a statement and its key starts with `edf_`; else of kind 1."
pub data KindIs (es : List Entry) : Kind → Type 0 where
  without-edf-key : (StartsWithEdfKey es → ⊥) → KindIs es kind_1
  with-edf-key : StartsWithEdfKey es → KindIs es kind_2

pub record OfKind (kind : Kind) (s : List ℕ) : Type 0 where
  pub entries : List Entry
  pub heads : HeadsFile s kind entries
  pub is : KindIs entries kind

-- "two accepted files of kind 1 laid end to end, within the limits".
pub record Joinable (s t : List ℕ) (rows others : List Row) : Type 0 where
  pub first : AcceptedFile s rows
  pub second : AcceptedFile t others
  pub first_kind : OfKind kind_1 s
  pub second_kind : OfKind kind_1 t
  pub few : length rows + length others ≤ block_limit
  pub small : length s + length t ≤ file_limit

-- "the first list of rows joined to the second with its starts moved by the first file's length".
abbrev pub joined_rows : ℕ → List Row → List Row → List Row
joined_rows n rows others = rows ++ map (moved_row n) others

-- ---- A block as a file of its own

-- A header that stands at `a` in a file, with its statements and entries, at the front of a list of its own: the same, with offsets less by `a`.
pub record HeaderAlone (l : List ℕ) (a : ℕ) (h : Header) (ts : List Statement) (es : List Entry) : Type 0 where
  pub header : Header
  pub statements : List Statement
  pub entries : List Entry
  pub stands : HasHeader l 0 header statements entries
  pub header_is : h ≡ moved_header a header
  pub statements_are : ts ≡ map (moved_statement a) statements
  pub entries_are : es ≡ map (moved_entry a) entries

-- Block k of a file without a general header: its bytes alone have a partition into one block, with the same row but for its start.
pub record AloneBlock (s : List ℕ) (k : ℕ) (row : Row) : Type 0 where
  pub rows : List Row
  pub file : AcceptedFile s rows
  pub at : slice_get rows k ≡ Some row
  pub no_general : general_header s rows ≡ None
  pub alone : Partition (block_bytes s row) (starting_at 0 row ∷ [])
