use Rattle.std.proofs.Common.{◌+◌, ◌*◌, ◌-◌, length, length-take, length-drop, refl, arith, rules}
use Rattle.raster.specs.Bytes.{joined}
use Rattle.strides.proofs.Filling.{mul_room}
use Rattle.delivery.specs.Tiles.{tiled}
use Rattle.delivery.proofs.TileCopies.{part, part_inside, part_length}
use Rattle.delivery.proofs.TileLaws.{within, tile_more, tile_done}
use Rattle.delivery.proofs.tiles.spread.Goals as goal

pub loop-i-init : goal.loop-i-init
unfolding tiled joined
loop-i-init c = search rules

pub slice_bounds-kept-end : goal.slice_bounds-kept-end
slice_bounds-kept-end c =
    let a = c.args in
    omega (arith, within a.w a.m a.k a.n1 c.requires.k_bound.0, mul_room (a.w * a.n1) c.loop-i.i a.n2 c.loop-i-test.true)

pub kept-requires-clause-fits : goal.kept-requires-clause-fits
kept-requires-clause-fits c =
    let a = c.args in
    let x = within a.w a.m a.k a.n1 c.requires.k_bound.0 in
    let y = mul_room (a.w * a.n1) c.loop-i.i a.n2 c.loop-i-test.true in
    record {
      inside = part_inside a.w a.n2 a.k (length a.copy.now) c.requires.n2_bound.1 c.loop-i.i c.loop-i-test.true;
      out_len = simp (length-take, length-drop) (omega (arith, x, y));
    }

pub loop-i-preserved : goal.loop-i-preserved
loop-i-preserved c =
    let a = c.args in
    let o = a.w * a.n1 * c.loop-i.i + a.w * a.m in
    tile_more (a.w * a.n1) a.n2 (a.w * a.m) (a.w * a.k) a.out.now (part a.copy.now a.w a.k a.n2) (within a.w a.m a.k a.n1 c.requires.k_bound.0)
    c.requires.k_bound.1 (part_length a.copy.now a.w a.k a.n2 c.requires.n2_bound.1) c.loop-i.i o (o + a.w * a.k - o) _ _ c.loop-i-test.true
    c.loop-i.invariant refl (omega arith) c.kept.ensures

pub returns : goal.returns
returns c =
    let a = c.args in
    tile_done (a.w * a.n1) a.n2 (a.w * a.m) (a.w * a.k) a.out.now (part a.copy.now a.w a.k a.n2) (within a.w a.m a.k a.n1 c.requires.k_bound.0)
    c.requires.k_bound.1 (part_length a.copy.now a.w a.k a.n2 c.requires.n2_bound.1) c.loop-i.i _ c.loop-i.auto.i-end c.loop-i-test.false c.loop-i.invariant
