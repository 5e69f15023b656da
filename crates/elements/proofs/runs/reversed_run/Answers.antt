-- `elements::runs::reversed_run` meets its contract: two parts of the buffer are written.
use Rattle.elements.proofs.RunGroups.{run_whole}
use Rattle.elements.proofs.runs.reversed_run.Goals as goal

pub returns : goal.returns
returns g c =
    run_whole g.row.W c.requires.width c.args.src.now c.args.out.now c.args.row c.requires.up c.requires.down c.requires.fits _ _
    c.each.ensures c.each-2.ensures
