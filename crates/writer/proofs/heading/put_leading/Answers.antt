-- `writer::heading::put_leading` meets its contract.
use mathlib.Core.Path.{sym}
use native.Mathlib.Omega.{arith}
use mir.Syntax.{w64}
use mir.Val.{SFits}
use mir.ValLaws.{to_z-of_z}
use borrow.Author.Rules.{rules}
use Rattle.text.proofs.Parts.{each-byte}
use Rattle.append.proofs.Appending.{within_then, within_is}
use Rattle.frame.specs.File.{frame_dims}
use Rattle.frame.proofs.Allowed.{dims_length}
use Rattle.frame.proofs.ShapeLaws.{allowed}
use Rattle.writer.proofs.HeaderLaws.{leading_is}
use Rattle.writer.proofs.heading.put_leading.Goals as goal

pub order_line-requires-clause-le_byteorder : goal.order_line-requires-clause-le_byteorder
order_line-requires-clause-le_byteorder c = let a = allowed c.args.f c.requires.f_value.0 in (a.byteorder.low, a.byteorder.high)

pub type_line-requires-clause-le_datatype : goal.type_line-requires-clause-le_datatype
type_line-requires-clause-le_datatype c = let a = allowed c.args.f c.requires.f_value.0 in (a.datatype.low, a.datatype.high)

pub slice_bounds-dim_lines-end : goal.slice_bounds-dim_lines-end
slice_bounds-dim_lines-end c = (allowed c.args.f c.requires.f_value.0).n.high

pub slice_bounds-dim_lines-end-2 : goal.slice_bounds-dim_lines-end-2
slice_bounds-dim_lines-end-2 c = sym (dims_length (allowed c.args.f c.requires.f_value.0))

pub dim_lines-requires-clause-small : goal.dim_lines-requires-clause-small
dim_lines-requires-clause-small c =
    λ i h. let d = each-byte (frame_dims c.args.f) (allowed c.args.f c.requires.f_value.0).dims i h in omega (arith, d.high)

pub returns : goal.returns
returns c =
    let sequence-fits : SFits w64 c.args.f.sequence = search rules in
    let memory-fits : SFits w64 c.args.f.memory = search rules in
    within_is (leading_is c.args.f c.args.size (to_z-of_z w64 _ sequence-fits) (to_z-of_z w64 _ memory-fits))
    (within_then (within_then (within_then (within_then (within_then c.identity_line.ensures c.number_line.ensures) c.order_line.ensures) c.type_line.ensures) c.dim_lines.ensures) c.number_line-2.ensures)
