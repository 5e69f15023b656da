-- `delivery::arrays::deliver_planes` meets its contract. The invariant: the first i planes are written.
use Rattle.std.proofs.Common.{◌≡◌, ℕ}
use Rattle.scan.specs.Buffer.{over}
use Rattle.raster.specs.Bytes.{joined}
use Rattle.conversion.specs.Converting.{converted}
use Rattle.conversion.specs.Plane.{rows_of}
use Rattle.delivery.specs.Cube.{plane_at}
use Rattle.delivery.proofs.arrays.deliver_planes.Given as goal

abbrev pub invariant-loop-i : goal.invariant-loop-i
invariant-loop-i l =
    l.out ≡ over (joined l.i (λ (j : ℕ). rows_of (converted l.c) l.c.width l.src (plane_at l.cube j))) l.initial.out
