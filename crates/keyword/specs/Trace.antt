-- A keyword of a block with its origin: "A keyword is looked up in the block's own header, any position, then .. in the general header".
use Rattle.std.specs.Prelude.{List, ℕ, Option}
use Rattle.scan.specs.declared.Span.{Span}
use Rattle.keyword.specs.Keyword.{View}
use Rattle.keyword.specs.Origin.{origin_in}
use Rattle.keyword.specs.Viewing.{value_bytes, span_in, value_in}
use Rattle.keyword.specs.declared.Origin.{Origin}
use Rattle.keyword.specs.declared.Traced.{Traced}

-- Where the value stands, the value, and which header has it.
pub record Trace : Type 0 where
  pub span : Option Span
  pub value : Option (List ℕ)
  pub origin : Origin

-- In a block.
abbrev pub trace_in : View → List ℕ → Trace
trace_in b name = record { span = span_in b name; value = value_in b name; origin = origin_in b name }

-- As the code has it, in the file s.
abbrev pub trace_of : List ℕ → Traced → Trace
trace_of s t = record { span = t.value; value = value_bytes s t.value; origin = t.origin }
