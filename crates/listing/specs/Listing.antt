-- What the lister prints of a file (01, "The lister"): the text, for every list of bytes.
use Rattle.std.specs.Prelude.{cond, List, [], ◌∷◌, ◌++◌, ℕ, suc, ◌≤◌, eqb, length, Ok, Err}
use Rattle.scan.specs.Outcome.{Outcome}
use Rattle.scan.specs.Byte.{ascii}
use Rattle.scan.specs.declared.Error.{Error}
use Rattle.blocks.specs.Opening.{opened_file}
use Rattle.blocks.specs.declared.Row.{Row}
use Rattle.description.specs.Describe.{description_of}
use Rattle.description.specs.declared.Description.{Description}
use Rattle.columns.specs.Columns.{number, after, identity_of, array_columns, error_columns}
use Rattle.listing.specs.Limits.{listing_room}

-- A line: its columns with a space between, and LF.
unfoldable pub line : List ℕ → List (List ℕ) → List ℕ
line first rest = first ++ (after 32 rest ++ ascii "\n")

-- "`refused`, number, place if not described"
unfoldable pub description_columns : Outcome Description → List (List ℕ)
description_columns (Ok d) = array_columns d
description_columns (Err e) = ascii "refused" ∷ error_columns e

-- "nothing after `general`"
unfoldable pub details : Row → Outcome Description → List (List ℕ)
details row o = cond (eqb row.kind 0) [] (description_columns o)

-- ---- The listing

-- "start, header and extent length, identity"
unfoldable pub row_columns : Row → List (List ℕ)
row_columns row = number row.start ∷ number row.header ∷ number row.size ∷ identity_of row ∷ []

-- "a line per block: number", then these columns and its description.
unfoldable pub block_line : List ℕ → ℕ → Row → List ℕ
block_line s k row = line (number k) (row_columns row ++ details row (description_of s k))

-- The lines of the blocks from block k on.
unfoldable pub block_lines : List ℕ → ℕ → List Row → List ℕ
block_lines s k [] = []
block_lines s k (row ∷ rows) = block_line s k row ++ block_lines s (suc k) rows

-- "A file that does not open gives one line only: `refused`, number, place."
unfoldable pub refused_line : Error → List ℕ
refused_line e = line (ascii "refused") (error_columns e)

-- "It prints `blocks` and the count, then a line per block".
unfoldable pub count_line : ℕ → List ℕ
count_line n = line (ascii "blocks") (number n ∷ [])

unfoldable pub listing_of : List ℕ → Outcome (List Row) → List ℕ
listing_of s (Ok rows) = count_line (length rows) ++ block_lines s 0 rows
listing_of s (Err e) = refused_line e

unfoldable pub listing : List ℕ → List ℕ
listing s = listing_of s (opened_file s)

-- A buffer that has room for every listing.
abbrev pub FitsListing : List ℕ → Type 0
FitsListing s = length (listing s) ≤ listing_room
