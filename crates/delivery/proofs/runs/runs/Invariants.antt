-- `delivery::runs::runs` meets its contract. The invariant: the first i runs are written.
use Rattle.std.proofs.Common.{◌≡◌, false}
use Rattle.scan.specs.Buffer.{over}
use Rattle.raster.specs.Strided.{turned, plane_of}
use Rattle.delivery.proofs.runs.runs.Given as goal

abbrev pub invariant-loop-i : goal.invariant-loop-i
invariant-loop-i l =
    let p = l.plane in
    l.out ≡ over (plane_of (turned false) l.w l.src p.first.at p.first.up p.first.down p.first.count p.up p.down l.i) l.initial.out
