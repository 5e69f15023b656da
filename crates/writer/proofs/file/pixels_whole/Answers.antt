-- `writer::file::pixels_whole` meets its contract.
use mathlib.Core.Path.{sym, ap, ◌∙◌}
use Prim.Native.Nat.{◌*◌}
use native.Mathlib.Omega.{arith}
use lib.Dec.{eqb}
use lib.ListN.{length}
use Rattle.frame.proofs.Codes.{type_narrow}
use Rattle.frame.proofs.ShapeLaws.{allowed, shape_total}
use Rattle.writer.proofs.file.pixels_whole.Goals as goal

pub array_length-requires : goal.array_length-requires
array_length-requires c =
    let ok = allowed c.args.f c.requires in
    (c.shape_of.ensures.small, omega (arith, c.width_of.ensures, type_narrow c.args.f.datatype ok.datatype))

pub returns : goal.returns
returns c =
    let total = shape_total c.args.f c.shape_of.result (allowed c.args.f c.requires) c.shape_of.ensures in
    ap (eqb (length c.args.pixels.now)) (c.array_length.ensures ∙ (λ i. sym total i * c.width_of.ensures i))
