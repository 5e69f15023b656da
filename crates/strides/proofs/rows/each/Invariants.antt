-- `strides::rows::each` meets its contract. The invariant: the first i elements are written.
use Rattle.std.proofs.Common.{◌≡◌, length, ◌*◌}
use Rattle.scan.specs.Buffer.{over}
use Rattle.raster.specs.Strided.{row_of}
use Rattle.strides.proofs.rows.each.Given as goal

abbrev pub invariant-loop-i : goal.invariant-loop-i
invariant-loop-i g l =
    let written = row_of (g.C.Change.made l.by) g.row.W l.src l.row.at l.row.up l.row.down l.i in
    (length written ≡ g.row.W * l.i) × (l.out ≡ over written l.initial.out)
