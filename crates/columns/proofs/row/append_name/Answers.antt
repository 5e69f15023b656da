-- `columns::row::append_name` meets its contract.
use mathlib.Core.Path.{◌∙◌}
use native.Mathlib.Omega.{arith}
use mir.Syntax.{w64}
use mir.Val.{SFits}
use mir.ValLaws.{to_z-of_z}
use borrow.Author.Rules.{rules}
use Rattle.blocks.specs.IdentityText.{identity_text}
use Rattle.append.proofs.Appending.{within_is, within_more}
use Rattle.columns.proofs.ColumnLaws.{name_general, name_none, name_identity}
use Rattle.columns.proofs.row.append_name.Goals as goal

pub returns-then-row-eq0 : goal.returns-then-row-eq0
returns-then-row-eq0 c = within_is (name_general c.args.row c.if-row-eq0.true) (within_more (omega arith) c.append.ensures)

pub returns-then-row-eq0-2 : goal.returns-then-row-eq0-2
returns-then-row-eq0-2 c =
    within_is (name_none c.args.row c.if-row-eq0.false c.if-row-eq0-2.true) (within_more (omega arith) c.append-then-row-eq0-2.ensures)

pub returns-else-row-eq0-2 : goal.returns-else-row-eq0-2
returns-else-row-eq0-2 c =
    let sequence-fits : SFits w64 c.args.row.sequence = search rules in
    let memory-fits : SFits w64 c.args.row.memory = search rules in
    let same = to_z-of_z w64 _ sequence-fits in
    let kept = to_z-of_z w64 _ memory-fits in
    within_is ((λ i. identity_text (same i) c.args.row.instance (kept i)) ∙ name_identity c.args.row c.if-row-eq0.false c.if-row-eq0-2.false)
    c.append_identity.ensures
