-- `conversion::rows::rows_by` meets its contract. The invariant: the first i rows are written.
use Rattle.std.proofs.Common.{◌≡◌, length, ◌*◌}
use Rattle.scan.specs.Buffer.{over}
use Rattle.raster.specs.Strided.{plane_of}
use Rattle.conversion.proofs.rows.rows_by.Given as goal

abbrev pub invariant-loop-i : goal.invariant-loop-i
invariant-loop-i g l =
    let p = l.plane in
    let written = plane_of (g.C.Change.made l.by) g.row.W l.src p.first.at p.first.up p.first.down p.first.count p.up p.down l.i in
    (length written ≡ g.row.W * p.first.count * l.i) × (l.out ≡ over written l.initial.out)
