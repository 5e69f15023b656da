-- Keywords of a block: "Calls about a block take the file and a block number (from 0) and answer as if they opened the file
-- anew." Their errors: opening's, then 16, then their own.
use Rattle.std.specs.Prelude.{Bool, false, cond, ◌&&◌, List, [], ℕ, eqb, ℤ, Option, None, Some, Ok, slice_get}
use Rattle.scan.specs.Outcome.{Outcome, present, ◌>>=◌}
use Rattle.scan.specs.declared.Span.{Span}
use Rattle.text.specs.Key.{key_of}
use Rattle.text.specs.Number.{whole_number}
use Rattle.text.specs.Text.{text_of, short_text}
use Rattle.header.specs.Entries.{entries, lookup}
use Rattle.header.specs.Entry.{Entry, body_of}
use Rattle.header.specs.Frame.{header_at}
use Rattle.header.specs.Statements.{statements_of}
use Rattle.blocks.specs.Counting.{is_edf_key}
use Rattle.blocks.specs.Opening.{opened_file}
use Rattle.blocks.specs.declared.Row.{Row}

-- What the header at an offset says.
unfoldable pub entries_at : List ℕ → ℕ → Outcome (List Entry)
entries_at s start = do
  h ← header_at s start
  ts ← statements_of s start h
  Ok (entries (body_of s h) ts)

-- A block as its keywords are looked up: its row, its own header's entries, and those of the general header for a data
-- block of a file that has one.
pub record View : Type 0 where
  pub row : Row
  pub own : List Entry
  pub general : List Entry

-- Whether a first row is that of a general block.
abbrev pub is_general : Option Row → Bool
is_general None = false
is_general (Some row) = eqb row.kind 0

-- The entries that a block shares with the file's other data blocks.
unfoldable pub general_entries : List ℕ → List Row → Row → Outcome (List Entry)
general_entries s rows row =
    cond (eqb row.kind 1 && is_general (slice_get rows 0)) (entries_at s 0) (Ok [])

-- 16: "no such block".
unfoldable pub view_of : List ℕ → ℕ → Outcome View
view_of s block = do
  rows ← opened_file s
  row ← present (slice_get rows block) 16 0
  own ← entries_at s row.start
  general ← general_entries s rows row
  Ok (record { row = row; own = own; general = general })

abbrev pub first_of : Option Entry → Option Entry → Option Entry
first_of (Some e) other = Some e
first_of None other = other

-- "A keyword is looked up in the block's own header, any position, then, for a data block and keys not starting `edf_`, in
-- the general header. The sought key is stripped and folded too."
unfoldable pub lookup_in : View → List ℕ → Option Entry
lookup_in b sought =
    let k = key_of sought in first_of (lookup k b.own) (cond (is_edf_key k) None (lookup k b.general))

-- 16: "no such .. keyword".
unfoldable pub entry_of : List ℕ → ℕ → List ℕ → Outcome Entry
entry_of s block sought = do
  b ← view_of s block
  present (lookup_in b sought) 16 0

-- "The answer is a place".
unfoldable pub found : List ℕ → ℕ → List ℕ → Outcome Span
found s block sought = do
  e ← entry_of s block sought
  Ok e.span

-- The value that stands there.
unfoldable pub value_found : List ℕ → ℕ → List ℕ → Outcome (List ℕ)
value_found s block sought = do
  e ← entry_of s block sought
  Ok e.value

-- 18: "bad number"; "Place .. 0 for a keyword read as a whole number".
unfoldable pub whole_number_of : List ℕ → ℕ → List ℕ → Outcome ℤ
whole_number_of s block sought = do
  e ← entry_of s block sought
  present (whole_number e.value) 18 0

-- The text of a value, with 25: "text too long".
unfoldable pub text_in : List ℕ → ℕ → List ℕ → Outcome (List ℕ)
text_in s block sought = do
  e ← entry_of s block sought
  short_text (text_of e.value)
