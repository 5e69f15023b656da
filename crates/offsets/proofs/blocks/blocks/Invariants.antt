-- `offsets::blocks::blocks` meets its contract. The invariant: the first i elements are written.
use Rattle.std.proofs.Common.{◌≡◌, ◌≤◌}
use Rattle.scan.specs.Buffer.{over}
use Rattle.raster.specs.Strided.{row_of}
use Rattle.shift.specs.Adding.{added}
use Rattle.offsets.proofs.blocks.blocks.Given as goal

abbrev pub invariant-loop-i : goal.invariant-loop-i
invariant-loop-i g l =
    (l.i ≤ l.row.count) × (l.out ≡ over (row_of (added g.row.W l.a) g.row.W l.src l.row.at l.row.up l.row.down l.i) l.initial.out)
