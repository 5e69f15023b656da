-- The contracts of the public calls, as relations between what a call was given, its answer, and what it leaves in lent memory. Each
-- is what the `ensures` of the call of that name says.
use Rattle.std.specs.Prelude.{◌≡◌, List, ◌++◌, ℕ, length, drop, Ok, ℤ}
use Rattle.scan.specs.Outcome.{Outcome}
use Rattle.reals.specs.declared.Real.{Real}
use Rattle.description.specs.declared.Description.{Description}
use Rattle.raster.specs.declared.Pixel.{Pixel}
use Rattle.stored.specs.declared.StoredArray.{StoredArray}
use Rattle.std.specs.Int.{w64}
use Rattle.std.proofs.Common.{SFits}
use Rattle.scan.specs.Buffer.{length_written, buffer_after}
use Rattle.scan.specs.Byte.{part_of}
use Rattle.scan.specs.declared.Span.{Span}
use Rattle.text.specs.Text.{escaped, unescaped}
use Rattle.blocks.specs.Opening.{opened_into, count_of, table_after}
use Rattle.blocks.specs.declared.Row.{Row}
use Rattle.keyword.specs.Answers.{located_bytes}
use Rattle.keyword.specs.Keyword.{found, value_found, whole_number_of, text_in}
use Rattle.quantities.specs.Real.{real_in}
use Rattle.raster.specs.Strided.{Octets}
use Rattle.description.specs.Describe.{description_of}
use Rattle.array.specs.Delivery.{array_in, pixel_in}
use Rattle.stored.specs.Stored.{stored_array, Delivers}
use Rattle.frame.specs.File.{written_file, FitsFile}
use Rattle.frame.specs.declared.Frame.{Frame}
use Rattle.listing.specs.Listing.{listing, FitsListing}

-- A call that is to write what a definition gives, into a lent buffer that held `before`: it answers r and leaves `after`.
pub record IntoBuffer (o : Outcome (List ℕ)) (before : List ℕ) (r : Outcome ℕ) (after : List ℕ) : Type 0 where
  pub answers : r ≡ length_written o before
  pub leaves : after ≡ buffer_after o before

-- A call that had room for the bytes: it answers how many they are, and they stand at the front of its buffer; the rest is as before.
abbrev pub Puts : List ℕ → List ℕ → Outcome ℕ → List ℕ → Type 0
Puts bytes before r after = (r ≡ Ok (length bytes)) × (after ≡ bytes ++ drop (length bytes) before)

-- open(file, table)
pub record Open (file : List ℕ) (before : List Row) (r : Outcome ℕ) (after : List Row) : Type 0 where
  pub answers : r ≡ count_of (opened_into (length before) file)
  pub leaves : after ≡ table_after (opened_into (length before) file) before

-- find(file, block, key)
pub record Find (file : List ℕ) (block : ℕ) (key : List ℕ) (r : Outcome Span) : Type 0 where
  pub answers : r ≡ found file block key
  pub bytes : located_bytes file r ≡ value_found file block key

-- part(file, p)
pub record Part (file : List ℕ) (p : Span) (r : List ℕ) : Type 0 where
  pub answers : r ≡ part_of file p

-- whole_number(file, block, key)
pub record WholeNumber (file : List ℕ) (block : ℕ) (key : List ℕ) (r : Outcome ℤ) : Type 0 where
  pub answers : r ≡ whole_number_of file block key

-- real(file, block, key)
pub record ReadReal (file : List ℕ) (block : ℕ) (key : List ℕ) (r : Outcome Real) : Type 0 where
  pub answers : r ≡ real_in file block key

-- text(file, block, key, out)
abbrev pub Text : List ℕ → ℕ → List ℕ → List ℕ → Outcome ℕ → List ℕ → Type 0
Text file block key = IntoBuffer (text_in file block key)

-- escape(bytes, out)
abbrev pub Escape : List ℕ → List ℕ → Outcome ℕ → List ℕ → Type 0
Escape bytes = IntoBuffer (escaped bytes)

-- unescape(value, out)
abbrev pub Unescape : List ℕ → List ℕ → Outcome ℕ → List ℕ → Type 0
Unescape value = IntoBuffer (unescaped value)

-- describe(file, block)
pub record Describe (file : List ℕ) (block : ℕ) (r : Outcome Description) : Type 0 where
  pub answers : r ≡ description_of file block

-- read_array(file, block, order, out)
abbrev pub ReadArray : List ℕ → ℕ → ℕ → List ℕ → Outcome ℕ → List ℕ → Type 0
ReadArray file block order = IntoBuffer (array_in file block order)

-- stored_array(file, block, order)
pub record Stores (file : List ℕ) (block order : ℕ) (r : Outcome StoredArray) : Type 0 where
  pub answers : r ≡ stored_array file block order
  pub delivers : Delivers file block order r

-- read_pixel(file, block, i1, i2, i3). The file is a slice of u8.
pub record ReadPixel (file : List ℕ) (block i1 i2 i3 : ℕ) (r : Outcome Pixel) : Type 0 where
  pub answers : r ≡ pixel_in file block i1 i2 i3
  pub octets : Octets file

-- write(frame, title, pixels, out). The frame's numbers are i64, and the pixels a slice of u8.
pub record Write (frame : Frame) (title pixels before : List ℕ) (r : Outcome ℕ) (after : List ℕ) : Type 0 where
  pub writes : IntoBuffer (written_file frame title pixels) before r after
  pub sequence : SFits w64 frame.sequence
  pub memory : SFits w64 frame.memory
  pub octets : Octets pixels
  pub fits : FitsFile frame title pixels

-- list(file, out)
pub record Lists (file before : List ℕ) (r : Outcome ℕ) (after : List ℕ) : Type 0 where
  pub writes : IntoBuffer (Ok (listing file)) before r after
  pub fits : FitsListing file
