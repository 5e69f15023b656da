use Rattle.std.proofs.Common.{◌≡◌, ℕ, ◌+◌, ◌≤◌, ap, ◌∙◌, arith}
use Rattle.raster.specs.Bytes.{joined}
use Rattle.conversion.specs.Converting.{converted}
use Rattle.delivery.proofs.TileLaws.{begun, tiles_none, tiles_more, tiles_done}
use Rattle.conversion.proofs.Lengths.{length-converted}
use Rattle.delivery.proofs.tiles.band.Goals as goal

pub loop-m-init : goal.loop-m-init
loop-m-init c =
    let a = c.args in
    (omega arith, tiles_none (converted a.c) a.c.width (length-converted a.c) a.src.now a.plane c.requires.inside a.out.now c.requires.fills)

pub loop-m-preserved : goal.loop-m-preserved
loop-m-preserved c =
    let a = c.args in
    let f = converted a.c in
    let k = c.min-k.result in
    let whole : k ≡ 64 = omega (arith, c.min-k.ensures) in
    let fits : c.loop-m.m + k ≤ a.plane.first.count = omega (arith, c.min-k.ensures) in (
      omega (arith, whole, fits),
      tiles_more f a.c.width (length-converted a.c) a.src.now a.plane c.requires.inside a.out.now c.requires.fills c.loop-m.m k _ _ fits
          c.loop-m.invariant.1 c.tile.ensures
          ∙ ap (λ (n : ℕ). joined a.plane.count (begun f a.c.width a.src.now a.plane a.out.now (c.loop-m.m + n))) whole,
    )

pub returns : goal.returns
returns c =
    let a = c.args in
    tiles_done (converted a.c) a.c.width (length-converted a.c) a.src.now a.plane c.requires.inside a.out.now c.requires.fills c.loop-m.m _
    c.loop-m.invariant.0 c.loop-m-test.false c.loop-m.invariant.1

pub returns-2 : goal.returns-2
returns-2 c =
    let a = c.args in
    let f = converted a.c in
    let k = c.min-k.result in
    let fits : c.loop-m.m + k ≤ a.plane.first.count = omega (arith, c.min-k.ensures) in
    let last : a.plane.first.count ≤ c.loop-m.m + k = omega (arith, c.min-k.ensures) in
    tiles_done f a.c.width (length-converted a.c) a.src.now a.plane c.requires.inside a.out.now c.requires.fills (c.loop-m.m + k) _ fits last
    (tiles_more f a.c.width (length-converted a.c) a.src.now a.plane c.requires.inside a.out.now c.requires.fills c.loop-m.m k _ _ fits
    c.loop-m.invariant.1 c.tile.ensures)
