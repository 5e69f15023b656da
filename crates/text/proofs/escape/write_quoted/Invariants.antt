-- `write_quoted` meets its contract. What is left to write is the escaped form of the bytes left, and a quote.
use Rattle.std.proofs.Common.{[], ◌∷◌, ◌++◌, drop}
use Rattle.text.specs.Text.{escaped_body, quoted_text}
use Rattle.text.proofs.Buffers.{Left}
use Rattle.text.proofs.escape.write_quoted.Given as goal

abbrev pub invariant-loop-b : goal.invariant-loop-b
invariant-loop-b l = Left (quoted_text l.text) l.initial.out l.out l.o (escaped_body (drop l.b-index l.text) ++ (34 ∷ []))
