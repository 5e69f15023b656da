-- `delivery::tiles::tile` meets its contract: the copy has the columns of the tile, and its rows are read from it.
use Rattle.std.proofs.Common.{ℕ, ◌*◌, sym, ap, subst, ◌∙◌}
use lib.ListN.{length}
use Rattle.raster.specs.Strided.{Inside2, plane_of}
use Rattle.conversion.specs.Converting.{converted}
use Rattle.conversion.proofs.Lengths.{length-converted}
use Rattle.delivery.proofs.TileCopies.{columns_inside, columns_length, front_is, tile_rows}
use Rattle.delivery.proofs.TileLaws.{tiled-same}
use Rattle.delivery.proofs.tiles.tile.Goals as goal

pub rows-requires-clause-inside : goal.rows-requires-clause-inside
rows-requires-clause-inside c =
    let a = c.args in
    let p = a.plane in
    subst (λ (q : ℕ). Inside2 q p.up p.down p.count p.first.up p.first.down a.k a.c.width (length a.src.now)) (sym c.spot.ensures.0)
    (columns_inside (converted a.c) a.c.width (length-converted a.c) a.src.now p c.requires.inside c.requires.width.1 c.requires.rows.0 a.m a.k c.requires.part.1.0)

pub returns : goal.returns
returns c =
    let a = c.args in
    let p = a.plane in
    let f = converted a.c in
    let w = a.c.width in
    let columns =
    c.rows.ensures ∙ ap (λ (q : ℕ). plane_of f w a.src.now q p.up p.down p.count p.first.up p.first.down a.k) c.spot.ensures.0
    in
    let long =
    columns_length f w (length-converted a.c) a.src.now p c.requires.inside c.requires.width.1 c.requires.rows.0 a.m a.k c.requires.part.1.0
    in
    c.spread.ensures
    ∙ tiled-same (w * p.first.count) p.count (w * a.m) (w * a.k) a.out.now _ _
    (tile_rows f w (length-converted a.c) a.src.now p c.requires.inside c.requires.width.1 c.requires.rows.0 a.m a.k c.requires.part.1.0 _
    (front_is (w * p.count * a.k) _ _ (ap length columns ∙ long) ∙ columns))
