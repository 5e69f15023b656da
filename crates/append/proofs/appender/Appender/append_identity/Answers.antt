-- `append::appender::Appender::append_identity` meets its contract.
use mathlib.Core.Path.{◌∙◌}
use mir.Syntax.{w64}
use mir.ValLaws.{to_z-of_z}
use Rattle.blocks.specs.IdentityText.{identity_text}
use Rattle.append.proofs.Appending.{within_then, within_is}
use Rattle.append.proofs.WordLaws.{identity_is}
use Rattle.append.proofs.appender.Appender.append_identity.Goals as goal

pub returns : goal.returns
returns c =
    let same = to_z-of_z w64 c.args.sequence c.ranges.sequence in
    let kept = to_z-of_z w64 c.args.memory c.ranges.memory in
    within_is (identity_is _ c.args.instance _ ∙ (λ i. identity_text (same i) c.args.instance (kept i)))
    (within_then (within_then (within_then c.append_decimal.ensures c.append.ensures) c.append_instance.ensures) c.append_memory.ensures)
