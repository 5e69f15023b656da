-- `delivery::tiles::spread` meets its contract. The invariant: the first i rows have their part of the tile.
use Rattle.std.proofs.Common.{◌≡◌, ◌*◌}
use Rattle.scan.specs.Buffer.{over}
use Rattle.delivery.specs.Tiles.{tiled}
use Rattle.delivery.proofs.TileCopies.{part}
use Rattle.delivery.proofs.tiles.spread.Given as goal

abbrev pub invariant-loop-i : goal.invariant-loop-i
invariant-loop-i l =
    l.out ≡ over (tiled (l.w * l.n1) l.i (l.w * l.m) (l.w * l.k) l.initial.out (part l.copy l.w l.k l.n2)) l.initial.out
