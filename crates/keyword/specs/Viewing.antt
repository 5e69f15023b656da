-- A block that was found, and the value of a key in it: what the code's answers stand for.
use Rattle.std.specs.Prelude.{◌≡◌, cond, ◌&&◌, List, [], ℕ, suc, eqb, Option, None, Some, option_map, Ok, Err}
use Rattle.scan.specs.Outcome.{Outcome, ◌>>=◌}
use Rattle.scan.specs.Byte.{part_of}
use Rattle.scan.specs.declared.Span.{Span}
use Rattle.text.specs.Key.{key_of}
use Rattle.header.specs.Entries.{entries, lookup}
use Rattle.header.specs.Entry.{Entry, body_of}
use Rattle.header.specs.Frame.{header_at}
use Rattle.header.specs.Statements.{leading_statements}
use Rattle.header.specs.declared.Header.{Header}
use Rattle.blocks.specs.Counting.{is_edf_key}
use Rattle.blocks.specs.declared.Row.{Row}
use Rattle.keyword.specs.Keyword.{View, lookup_in}
use Rattle.keyword.specs.declared.Block.{Block}

-- What a header says.
unfoldable pub header_entries : List ℕ → Header → List Entry
header_entries s h = entries (body_of s h) (leading_statements (body_of s h) (suc h.left))

-- What the general header says, if there is one.
abbrev pub inherited_entries : List ℕ → Option Header → List Entry
inherited_entries s None = []
inherited_entries s (Some h) = header_entries s h

-- The view of a block of the file s.
unfoldable pub view_at : List ℕ → Block → View
view_at s b =
    record {
      row = b.row;
      own = header_entries s b.own;
      general = inherited_entries s b.general;
    }

abbrev pub viewed_outcome : List ℕ → Outcome Block → Outcome View
viewed_outcome s (Ok b) = Ok (view_at s b)
viewed_outcome s (Err e) = Err e

abbrev pub value_bytes : List ℕ → Option Span → Option (List ℕ)
value_bytes s (Some p) = Some (part_of s p)
value_bytes s None = None

-- An answer is the span and the value of what was found.
abbrev pub Tells : List ℕ → Option Span → Option Entry → Type 0
Tells s r o = (r ≡ option_map (λ (e : Entry). e.span) o) × (value_bytes s r ≡ option_map (λ (e : Entry). e.value) o)

-- A key in the general entries of a block, where EDF_ keys are not looked up.
unfoldable pub general_entry : View → List ℕ → Option Entry
general_entry b sought = let k = key_of sought in cond (is_edf_key k) None (lookup k b.general)

-- The span and the value of a key in a block.
abbrev pub span_in : View → List ℕ → Option Span
span_in b name = option_map (λ (e : Entry). e.span) (lookup_in b name)

abbrev pub value_in : View → List ℕ → Option (List ℕ)
value_in b name = option_map (λ (e : Entry). e.value) (lookup_in b name)

-- The view of the block with a row, in a file whose first row is `first`, where the statements of the headers pass.
abbrev pub shared_entries : List ℕ → Row → Row → Outcome (List Entry)
shared_entries s first row = cond (eqb row.kind 1 && eqb first.kind 0) (header_at s 0 >>= (λ h. Ok (header_entries s h))) (Ok [])

unfoldable pub row_view : List ℕ → Row → Row → Outcome View
row_view s first row = do
  own ← header_at s row.start
  general ← shared_entries s first row
  Ok (record { row = row; own = header_entries s own; general = general })
