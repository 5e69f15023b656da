-- The answers that have a span of the file, with the span moved by n.
use Rattle.std.specs.Prelude.{ℕ, Ok, Err}
use Rattle.scan.specs.Outcome.{Outcome}
use Rattle.scan.specs.declared.Span.{Span}
use Rattle.locality.specs.Moved.{moved_span, moved_from}
use Rattle.stored.specs.declared.StoredArray.{StoredArray}

-- Of `find`,
abbrev pub moved_located : ℕ → Outcome Span → Outcome Span
moved_located n (Ok p) = Ok (moved_span n p)
moved_located n (Err e) = Err e

-- and with the spans before the offset `start` as they are.
abbrev pub moved_located_from : ℕ → ℕ → Outcome Span → Outcome Span
moved_located_from start n (Ok p) = Ok (moved_from start n p)
moved_located_from start n (Err e) = Err e

-- Of `stored_array`.
abbrev pub moved_array : ℕ → StoredArray → StoredArray
moved_array n a = record { description = a.description; span = moved_span n a.span; delivered = a.delivered }

abbrev pub moved_stored : ℕ → Outcome StoredArray → Outcome StoredArray
moved_stored n (Ok a) = Ok (moved_array n a)
moved_stored n (Err e) = Err e
