-- The numbers and values of this layer's answers.
use Rattle.std.specs.Prelude.{List, ℕ, Ok, Err}
use Rattle.scan.specs.Outcome.{Outcome}
use Rattle.scan.specs.Byte.{part_of}
use Rattle.scan.specs.declared.Span.{Span}

-- The bytes of the file at that span, or the error.
abbrev pub located_bytes : List ℕ → Outcome Span → Outcome (List ℕ)
located_bytes s (Ok p) = Ok (part_of s p)
located_bytes s (Err e) = Err e
