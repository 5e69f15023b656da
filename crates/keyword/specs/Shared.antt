-- A block that two files share: "The general law of keeping blocks apart" (02, No. 3) is about such blocks.
use Rattle.std.specs.Prelude.{◌≡◌, List, ℕ, None, Some, slice_get}
use Rattle.blocks.specs.declared.Row.{Row}
use Rattle.locality.specs.Blocks.{AcceptedFile, block_bytes, general_header}
use Rattle.locality.specs.Moved.{moved_row}

-- Block k of the accepted file s, which has the row `row`, and block j of the accepted file t, which has the row `other`: they have "the same
-- bytes in it, and the same general header or none in either".
pub record SharedBlock (s t : List ℕ) (k j : ℕ) (row other : Row) : Type 0 where
  pub rows : List Row
  pub others : List Row
  pub file : AcceptedFile s rows
  pub other_file : AcceptedFile t others
  pub at : slice_get rows k ≡ Some row
  pub other_at : slice_get others j ≡ Some other
  pub bytes : block_bytes s row ≡ block_bytes t other
  pub general : general_header s rows ≡ general_header t others

-- "two accepted files have the same row for a block".
abbrev pub SameBlock : List ℕ → List ℕ → ℕ → ℕ → Type 0
SameBlock s t k j = (row : Row) × SharedBlock s t k j row row

-- The block starts n bytes later in the file t,
abbrev pub MovedBlock : ℕ → List ℕ → List ℕ → ℕ → ℕ → Type 0
MovedBlock n s t k j = (row : Row) × SharedBlock s t k j row (moved_row n row)

-- and there is no general header.
abbrev pub MovedPlainBlock : ℕ → List ℕ → List ℕ → ℕ → ℕ → Type 0
MovedPlainBlock n s t k j = (row : Row) × (b : SharedBlock s t k j row (moved_row n row)) × (general_header s b.rows ≡ None)
