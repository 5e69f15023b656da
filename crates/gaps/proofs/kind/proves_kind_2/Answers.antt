-- `gaps::kind::proves_kind_2` meets its contract.
use Rattle.std.specs.Prelude.{Ok}
use mathlib.Core.Path.{◌≡◌, sym, ◌∙◌}
use native.Mathlib.Omega.{arith}
use lib.Seq.{length-take-le}
use Rattle.header.specs.Frame.{header_at}
use Rattle.header.proofs.FrameLaws.{header_sound, header_inside, header_order}
use Rattle.gaps.proofs.KindLaws.{kind_unframed, kind_framed}
use Rattle.gaps.proofs.kind.proves_kind_2.Goals as goal

pub overflow_add-h : goal.overflow_add-h
overflow_add-h c =
    let framed : header_at c.args.file.now c.args.at ≡ Ok c.in-Ok.h = sym c.header_at.ensures ∙ c.in-Ok.is in
    let x = header_sound framed in omega (arith, header_order x, header_inside x)

pub slice_bounds-is_edf_body-end : goal.slice_bounds-is_edf_body-end
slice_bounds-is_edf_body-end c =
    let framed : header_at c.args.file.now c.args.at ≡ Ok c.in-Ok.h = sym c.header_at.ensures ∙ c.in-Ok.is in
    let x = header_sound framed in sym (length-take-le _ _ (omega (arith, header_inside x)))

pub returns-in_default : goal.returns-in_default
returns-in_default c =
    kind_unframed _ _ (sym c.in_default.is ∙ c.header_at.ensures)

pub returns : goal.returns
returns c =
    let framed : header_at c.args.file.now c.args.at ≡ Ok c.in-Ok.h = sym c.header_at.ensures ∙ c.in-Ok.is in
    kind_framed _ _ _ (sym framed) c.is_edf_body.ensures
