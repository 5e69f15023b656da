-- `array::pixel::bits_of` meets its contract: one element is delivered in front of zeros.
use mathlib.Core.Path.{ap, ◌∙◌}
use native.Mathlib.Omega.{arith}
use lib.IntN.{ℤ}
use lib.ListN.{replicate}
use mir.Syntax.{w64}
use mir.Val.{SFits}
use mir.ValLaws.{to_z-of_z}
use Rattle.scan.specs.Buffer.{over}
use Rattle.raster.specs.Strided.{delivered_at}
use Rattle.raster.specs.Types.{type_of}
use Rattle.raster.proofs.Tables.{type_width_few, type_width_some}
use Rattle.delivery.proofs.Planes.{octets_all}
use Rattle.shift.proofs.Digits.{low_first_8}
use Rattle.array.proofs.PixelLaws.{steps_at, one_inside, bits_read}
use borrow.Author.Rules.{rules}
use Rattle.array.proofs.pixel.bits_of.Goals as goal

pub deliver-requires : goal.deliver-requires
deliver-requires c =
    record { inside3 = one_inside c.args.at (type_of c.args.d.datatype).width _ c.requires; dim1_bound = (omega (arith, type_width_few c.args.d.datatype), omega (arith, type_width_few c.args.d.datatype)) }

pub returns : goal.returns
returns c =
    let offset-fits : SFits w64 c.args.d.offset = search rules in
    let filled = c.deliver.ensures
    ∙ ap (λ (z : ℤ).
    over (delivered_at (type_of c.args.d.datatype) c.args.d.byteorder z 2 c.args.src.now (steps_at c.args.at) 1 1 1) (replicate 8 0))
    (to_z-of_z w64 c.args.d.offset offset-fits) in
    let both = bits_read (type_of c.args.d.datatype) c.args.d.byteorder c.args.d.offset c.args.src.now c.args.at _ c.from_le_bytes.result
    (type_width_some c.args.d.datatype) c.requires (octets_all c.args.src.now (λ i. (c.type_inv.src i).fits))
    filled (c.from_le_bytes.ensures ∙ low_first_8 _ (search rules)) in record { value = both.0; upper_bound = both.1 }
