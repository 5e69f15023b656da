-- `conversion::rows::rows` meets its contract. The invariant: the first i rows are written.
use Rattle.std.proofs.Common.{◌≡◌}
use Rattle.scan.specs.Buffer.{over}
use Rattle.raster.specs.Strided.{plane_of}
use Rattle.conversion.specs.Converting.{converted}
use Rattle.conversion.proofs.rows.rows.Given as goal

abbrev pub invariant-loop-i : goal.invariant-loop-i
invariant-loop-i l =
    let p = l.plane in
    l.out ≡ over (plane_of (converted l.c) l.c.width l.src p.first.at p.first.up p.first.down p.first.count p.up p.down l.i) l.initial.out
