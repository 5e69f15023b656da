-- The main theorems about the public calls. `Write`, `Open` and the others are the contracts of the calls of these names (specs/Calls;
-- Contracts, beside this file): `Open s before r after` is any call of `open` on the file s, with a table that held `before`, that answers
-- r and leaves `after`. `Puts` is what a call that writes answers and leaves where its buffer has room. Main/Words says where each word
-- stands. Four more pages: Main/Keywords, on keywords and fields by the grammar, Main/Reals, on real numbers, Main/Arrays, and
-- Main/Independence, on the independence of blocks and on concatenated files. Beside this file: Refusals, Codes, Answers.
pub mod Arrays
pub mod Independence
pub mod Keywords
pub mod Reals
mod Words
use Words.*

-- ---- A file opens exactly if it has a cut

-- A call of `open` on a file of at most 1,073,741,824 bytes, with a table of at least 256 rows, whatever they hold.
module _ {s : List ℕ} {before after : List Row} {r : Outcome ℕ} (allowed : Allowed s (length before)) (call : Open s before r after) where
  pub accepts : ((n : ℕ) × (r ≡ Ok n)) ↔ ((blocks : List Block) × Cut s blocks)
  accepts = (promised call).accepted allowed

  -- The answer is the number of the cut's blocks, the table holds their rows in order, and all later rows are as before.
  pub gives : {blocks : List Block} (cut : Cut s blocks)
      → (r ≡ Ok (length blocks)) × (after ≡ cut.rows ++ drop (length cut.rows) before)
  gives {blocks} cut = ((promised call).count allowed blocks cut, (promised call).rows allowed blocks cut)

  -- Each error is given exactly in its case.
  pub refuses : {e : Error} → (r ≡ Err e) ↔ FileError s e
  refuses {e} = (promised call).errors allowed e

-- Any two cuts of a file are equal. Every header of a cut has a parse, and any two parses of a header are equal.
module _ {s : List ℕ} where
  pub one_cut : {blocks others : List Block} → Cut s blocks → Cut s others → blocks ≡ others
  one_cut = blocks.one_cut s

  pub has_parse : {blocks : List Block} → Cut s blocks → {b : Block} → List-as-Memᴰ b blocks → BlockHeader s b
  has_parse = blocks.has_parse s

  pub one_parse : {h : Header} {ts us : List Statement} → Parse s h ts → Parse s h us → ts ≡ us
  one_parse = blocks.one_parse s

-- The blocks of a cut use up every byte, in kind 1 together with whitespace before, between and after them.
pub every_byte : {s : List ℕ} {blocks : List Block} (c : Cut s blocks) (k : ℕ) → k < length s → Covered s c.partition.rules.kind c.rows k
every_byte {s} c = blocks.every_byte s c.partition

-- ---- What is written reads back, for every frame, title and pixels: all types, one to three dimensions, every configuration

-- A frame, title and pixels that are allowed (`Writes` lists the conditions) are written, if the buffer has room for the file.
pub writes : {f : Frame} {title pixels file before after : List ℕ} {r : Outcome ℕ} → Writes f title pixels file → length file ≤ length before
    → Write f title pixels before r after → Puts file before r after
writes w h c = with_room (written_is w) h c.writes

-- A call of `write` that answered n and left `after` in its buffer.
module _ (f : Frame) (title pixels before after : List ℕ) (n : ℕ) (call : Write f title pixels before (Ok n) after) where
  -- The bytes written: n bytes, the file that the definition gives, of arguments that are allowed; all later bytes are as before.
  abbrev file : List ℕ
  file = take n after

  pub file_length : length file ≡ n
  file_length = (wrote (written_file f title pixels) call.writes).count

  pub written : written_file f title pixels ≡ Ok file
  written = (wrote (written_file f title pixels) call.writes).bytes

  pub allowed : Writes f title pixels file
  allowed = written_says f title pixels written

  pub rest_kept : drop n after ≡ drop n before
  rest_kept = (wrote (written_file f title pixels) call.writes).rest

  -- Its numbers are i64.
  fits : Fits f
  fits = record { sequence = call.sequence; memory = call.memory }

  -- The file is one block, with the frame's identity.
  pub one_block : Partition file (row_of f title pixels ∷ [])
  one_block = writer.one_block f title pixels fits written

  -- `open` answers 1 and gives its row; all later rows of the table are as before.
  pub opens : {table left : List Row} {r : Outcome ℕ} → 256 ≤ length table → Open file table r left
      → (r ≡ Ok 1) × (left ≡ row_of f title pixels ∷ drop 1 table)
  opens h c = opens_rows one_block (file_small allowed) h c

  -- `describe` gives the frame: type, byte order, dimensions and configuration, all with the origin own; and compression None, orientation
  -- 1 and offset 0, with the origin default.
  pub describes : {r : Outcome Description} → Describe file 0 r → r ≡ Ok (description_for f)
  describes {r} c = (c.answers ∙ writer.describes f title pixels fits written)

  -- `text` gives the title.
  pub title_reads : {room left : List ℕ} {r : Outcome ℕ} → length title ≤ length room → Text file 0 (ascii "Title") room r left → Puts title room r left
  title_reads h c = with_room (writer.reads f title pixels fits written) h c

  -- `read_array` with the high byte first gives the pixels.
  pub pixels_read : {room left : List ℕ} {r : Outcome ℕ} → length pixels ≤ length room → ReadArray file 0 1 room r left → Puts pixels room r left
  pixels_read h c = with_room (writer.delivers f title pixels fits written call.octets) h c

  -- `read_pixel` gives the value of the pixel's bytes, at every index.
  pub pixel_reads : {i1 i2 i3 : ℕ} {r : Outcome Pixel} → Inside (frame_dims f) i1 i2 i3 → ReadPixel file 0 i1 i2 i3 r
      → let bytes = pixel f pixels (position_in (frame_dims f) i1 i2 i3) in
      r ≡ Ok (pixel_of (frame_type f).class (frame_type f).width (number_of 1 bytes))
  pixel_reads {i1} {i2} {i3} {r} h c = (c.answers ∙ writer.samples f title pixels fits written call.octets i1 i2 i3 h)

  -- `list` prints one block, the row and the description.
  abbrev listed : List ℕ
  listed = count_line 1 ++ line (decimal (pos 0)) (row_columns (row_of f title pixels) ++ array_columns (description_for f))

  pub lists : {room left : List ℕ} {r : Outcome ℕ} → length listed ≤ length room → Lists file room r left → Puts listed room r left
  lists h c = with_room (ap Ok (one_block_listing _ _ _ one_block (file_small allowed) refl (writer.describes f title pixels fits written))) h c.writes

-- ---- Texts

-- 2,048 bytes are room for what `escape` writes, and 1,023 for `unescape` and `text`.
pub escape_fits : (text : List ℕ) {value : List ℕ} → escaped text ≡ Ok value → length value ≤ 2048
escape_fits = laws.escaped_fits

pub unescape_fits : (value : List ℕ) {text : List ℕ} → unescaped value ≡ Ok text → length text ≤ 1023
unescape_fits = laws.unescaped_fits

pub text_fits : (s : List ℕ) (block : ℕ) (key : List ℕ) {text : List ℕ} → text_in s block key ≡ Ok text → length text ≤ 1023
text_fits = laws.text_fits

-- Text in value form reads back.
pub text_back : (text : List ℕ) {before after : List ℕ} {n : ℕ} → Escape text before (Ok n) after
    → {room left : List ℕ} {r : Outcome ℕ} → length text ≤ length room → Unescape (take n after) room r left → Puts text room r left
text_back text c h d = with_room (unescaped_back text (wrote (escaped text) c).bytes) h d
