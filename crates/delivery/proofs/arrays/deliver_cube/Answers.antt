-- `delivery::arrays::deliver_cube` meets its contract: as one row, as one plane, or plane by plane.
use Rattle.std.proofs.Common.{◌*◌, length, length-take, sym, ◌∙◌, arith}
use Rattle.raster.proofs.Tables.{width_some}
use Rattle.conversion.specs.Converting.{converted}
use Rattle.conversion.proofs.Lengths.{length-converted}
use Rattle.delivery.proofs.Flats.{cube_inside, cube_written, cube_bytes, across_inside, across_written}
use Rattle.delivery.proofs.arrays.deliver_cube.Goals as goal

pub row-requires-clause-fits : goal.row-requires-clause-fits
row-requires-clause-fits c =
    let a = c.args in
    let p = a.cube.first in
    let bytes = cube_bytes a.c.width p.first.count p.count a.cube.count (length a.out.now) (width_some c.requires.width).0 c.if-cube-gt1.true c.requires.room.1 in
    record {
      inside = cube_inside a.c.width a.cube (sym c.is_flat_cube.ensures ∙ c.if-is_flat_cube.true) (length a.src.now) c.requires.inside;
      out_len = simp length-take (omega (arith, bytes, c.requires.room.1));
    }

pub returns-then-is_flat_cube : goal.returns-then-is_flat_cube
returns-then-is_flat_cube c =
    let a = c.args in
    let p = a.cube.first in
    cube_written a.c.width a.cube (sym c.is_flat_cube.ensures ∙ c.if-is_flat_cube.true) (converted a.c) (length-converted a.c) a.src.now
    c.requires.inside (a.c.width * (p.first.count * p.count * a.cube.count)) a.out.now _ (omega arith) c.row.ensures

pub deliver_plane-requires-clause-inside : goal.deliver_plane-requires-clause-inside
deliver_plane-requires-clause-inside c =
    across_inside c.args.c.width c.args.cube c.if-cube-eq1.true (length c.args.src.now) c.requires.inside

pub returns-then-cube-eq1 : goal.returns-then-cube-eq1
returns-then-cube-eq1 c =
    let a = c.args in
    across_written a.c.width a.cube c.if-cube-eq1.true (converted a.c) (length-converted a.c) a.src.now c.requires.inside
    (a.c.width * a.cube.first.first.count * a.cube.count) a.out.now _ (omega arith) c.deliver_plane.ensures
