-- `append::appender::Appender::append_memory` meets its contract.
use mathlib.Core.Path.{sym, ap, ◌∙◌}
use mir.Syntax.{w64}
use mir.Val.{to_z, of_z}
use mir.ValLaws.{to_z-of_z}
use Rattle.blocks.specs.IdentityText.{memory_text}
use Rattle.append.proofs.Appending.{within_then, within_is, within_nothing}
use Rattle.append.proofs.WordLaws.{memory_left_out, memory_written}
use Rattle.append.proofs.appender.Appender.append_memory.Goals as goal

pub returns-then-memory-ne1 : goal.returns-then-memory-ne1
returns-then-memory-ne1 c =
    let kept = to_z-of_z w64 c.args.memory c.ranges.memory in
    within_is (memory_written _ (λ e. c.if-memory-ne1.true (ap (of_z w64) (sym kept ∙ e))) ∙ ap memory_text kept)
    (within_then c.append.ensures c.append_decimal.ensures)

pub returns-else-memory-ne1 : goal.returns-else-memory-ne1
returns-else-memory-ne1 c =
    within_is (memory_left_out _ (sym (to_z-of_z w64 c.args.memory c.ranges.memory) ∙ ap (to_z w64) c.if-memory-ne1.false)) (within_nothing c.requires)
