-- What stands in a file, with its offsets moved by n: as it stands where n bytes more come before it.
use Rattle.std.specs.Prelude.{cond, ℕ, ◌+◌, leb, Ok, Err}
use Rattle.scan.specs.Outcome.{Outcome, error_at}
use Rattle.scan.specs.declared.Error.{Error}
use Rattle.scan.specs.declared.Span.{Span}
use Rattle.header.specs.Entry.{Entry}
use Rattle.header.specs.declared.Header.{Header}
use Rattle.header.specs.declared.Statement.{Statement}
use Rattle.blocks.specs.declared.Accepted.{Accepted}
use Rattle.blocks.specs.declared.Row.{Row}

abbrev pub moved_span : ℕ → Span → Span
moved_span n p = record { offset = n + p.offset; length = p.length }

-- Spans from the offset `start` on are moved; those before it stay.
abbrev pub moved_from : ℕ → ℕ → Span → Span
moved_from start n p = cond (leb start p.offset) (moved_span n p) p

-- The same code.
abbrev pub moved_error : ℕ → Error → Error
moved_error n e = error_at e.code (n + e.position)

-- An answer: its value by f, or its error.
abbrev pub moved_outcome : {A B : Type 0} → ℕ → (A → B) → Outcome A → Outcome B
moved_outcome n f (Ok x) = Ok (f x)
moved_outcome n f (Err e) = Err (moved_error n e)

-- The same where the error's position is no offset of what is moved: its value by f, its error as it is.
abbrev pub map_outcome : {A B : Type 0} → (A → B) → Outcome A → Outcome B
map_outcome f (Ok x) = Ok (f x)
map_outcome f (Err e) = Err e

-- ---- A header, and what it says

-- The same length.
abbrev pub moved_header : ℕ → Header → Header
moved_header n h = record { left = n + h.left; right = n + h.right; length = h.length }

abbrev pub moved_statement : ℕ → Statement → Statement
moved_statement n t = record { first = n + t.first; equals = n + t.equals; end = n + t.end }

-- The same key and value.
abbrev pub moved_entry : ℕ → Entry → Entry
moved_entry n e = record { key = e.key; value = e.value; span = moved_span n e.span }

-- ---- A block

-- A row with another start: the same lengths, kind and identity.
abbrev pub starting_at : ℕ → Row → Row
starting_at start row =
    record {
      start = start;
      header = row.header;
      size = row.size;
      kind = row.kind;
      sequence = row.sequence;
      instance = row.instance;
      memory = row.memory;
    }

abbrev pub moved_row : ℕ → Row → Row
moved_row n row = starting_at (n + row.start) row

-- One that opening accepts: its row, where the next starts, and the file's rules.
abbrev pub moved_accepted : ℕ → Accepted → Accepted
moved_accepted n a = record { row = moved_row n a.row; next = n + a.next; rules = a.rules }
