-- `delivery::arrays::deliver_plane` meets its contract: as one row, by tiles, or row by row.
use Rattle.std.proofs.Common.{length, sym, ◌∙◌}
use Rattle.conversion.specs.Converting.{converted}
use Rattle.raster.proofs.Tables.{width_some}
use Rattle.delivery.proofs.Flats.{flat_inside, flat_row, fewer}
use Rattle.delivery.proofs.StoredRows.{plane_stored}
use Rattle.delivery.specs.Flat.{as_stored}
use Rattle.raster.specs.declared.stride.Steps.{Steps}
use Rattle.delivery.proofs.arrays.deliver_plane.Goals as goal

pub row-requires-clause-fits : goal.row-requires-clause-fits
row-requires-clause-fits c =
    let a = c.args in
    let p = a.plane.now in
    record {
      inside = flat_inside a.c.now.width p (sym c.is_flat.ensures ∙ c.if-is_flat.true) (length a.src.now) c.requires.inside;
      out_len = (fewer a.c.now.width p.first.count p.count (length a.out.now) (width_some c.requires.width).0 c.requires.fills).1;
    }

pub returns-then-is_flat : goal.returns-then-is_flat
returns-then-is_flat c =
    c.row.ensures ∙ flat_row c.args.c.now.width c.args.plane.now (sym c.is_flat.ensures ∙ c.if-is_flat.true) (converted c.args.c.now) c.args.src.now

pub returns-then-are_runs : goal.returns-then-are_runs
unfolding as_stored
returns-then-are_runs c =
    let p = c.args.plane.now in
    let t : Steps = record { at = p.first.at; up1 = p.first.up; down1 = p.first.down; up2 = p.up; down2 = p.down; up3 = 0; down3 = 0 } in
    c.runs.ensures.bytes
    ∙ plane_stored c.args.c.now t (sym c.are_runs.ensures ∙ c.if-are_runs.true) c.args.src.now p.first.at p.first.count p.count
