-- `write_unescaped` meets its contract. What is left to write is the text of the bytes left, by whether a backslash stands before.
use Rattle.std.proofs.Common.{false, drop}
use Rattle.text.proofs.Buffers.{Left}
use Rattle.text.proofs.Escaping.{text_after}
use Rattle.text.proofs.escape.write_unescaped.Given as goal

abbrev pub invariant-loop-b : goal.invariant-loop-b
invariant-loop-b l = Left (text_after false l.value) l.initial.out l.out l.o (text_after l.pending (drop l.b-index l.value))
