-- `backward::rows::backward` meets its contract: two parts of the buffer are written.
use Rattle.backward.proofs.BackwardLaws.{groups_fits, left_fits, row_is}
use Rattle.backward.proofs.rows.backward.Goals as goal

pub each-requires : goal.each-requires
each-requires g c =
    groups_fits g.row.W c.requires.width c.args.src.now c.args.out.now c.args.row c.requires.up c.requires.down c.requires.fits
    _ c.saturating_sub.ensures

pub each-requires-2 : goal.each-requires-2
each-requires-2 g c =
    left_fits g.row.W c.requires.width c.args.src.now c.args.out.now c.args.row c.requires.up c.requires.down c.requires.fits
    _ _ c.saturating_sub-2.ensures c.each.auto.out

pub returns : goal.returns
returns g c =
    row_is g.row.W c.requires.width c.args.src.now c.args.out.now c.args.row c.requires.up c.requires.down c.requires.fits
    _ _ _ _ c.saturating_sub.ensures c.saturating_sub-2.ensures c.each.ensures c.each-2.ensures
