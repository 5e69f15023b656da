-- `delivery::arrays::deliver` meets its contract: the conversion makes every element what is to be delivered.
use Rattle.std.proofs.Common.{List, ℕ, ap, subst, ◌∙◌}
use lib.IntN.{ℤ}
use mir.Syntax.{w64}
use mir.ValLaws.{to_z-of_z}
use Rattle.scan.specs.Buffer.{over}
use Rattle.raster.specs.Types.{type_of}
use Rattle.conversion.specs.Converting.{Converts}
use Rattle.delivery.proofs.Planes.{octets_all, cube_delivered}
use Rattle.delivery.proofs.arrays.deliver.Goals as goal

pub returns : goal.returns
returns c =
    let a = c.args in
    let converts =
    subst (λ (z : ℤ). Converts (type_of a.datatype) a.byteorder z a.asked c.conversion_of.result)
    (to_z-of_z w64 a.offset c.ranges.offset) c.conversion_of.ensures in
    c.deliver_cube.ensures
    ∙ ap (λ (l : List ℕ). over l a.out.now)
    (cube_delivered (type_of a.datatype) a.byteorder a.offset a.asked c.conversion_of.result converts a.src.now
    (octets_all a.src.now (λ k. (c.type_inv.src k).fits)) a.t a.dim1 a.dim2 a.dim3 c.requires.inside3)
