-- `delivery::tiles::band` meets its contract. The invariant: the elements before index m of every row are delivered.
use Rattle.std.proofs.Common.{◌≡◌, ◌≤◌}
use Rattle.raster.specs.Bytes.{joined}
use Rattle.conversion.specs.Converting.{converted}
use Rattle.delivery.proofs.TileLaws.{begun}
use Rattle.delivery.proofs.tiles.band.Given as goal

abbrev pub invariant-loop-m : goal.invariant-loop-m
invariant-loop-m l =
    (l.m ≤ l.plane.first.count) × (l.out ≡ joined l.plane.count (begun (converted l.c) l.c.width l.src l.plane l.initial.out l.m))
