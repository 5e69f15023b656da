-- `rendering::lines::identity_line` meets its contract.
use mathlib.Core.Path.{◌∙◌}
use mir.Syntax.{w64}
use mir.ValLaws.{to_z-of_z}
use Rattle.scan.specs.Byte.{ascii}
use Rattle.blocks.specs.IdentityText.{identity_text}
use Rattle.rendering.specs.Render.{keyword, line}
use Rattle.append.proofs.Appending.{within_then, within_is}
use Rattle.rendering.proofs.LineLaws.{line_is}
use Rattle.rendering.proofs.lines.identity_line.Goals as goal

pub returns : goal.returns
returns c =
    let same = to_z-of_z w64 c.args.sequence c.ranges.sequence in
    let kept = to_z-of_z w64 c.args.memory c.ranges.memory in
    within_is (line_is _ _ ∙ (λ i. line (keyword (ascii "EDF_DataBlockID") (identity_text (same i) c.args.instance (kept i)))))
    (within_then (within_then c.begin_line.ensures c.append_identity.ensures) c.end_line.ensures)
