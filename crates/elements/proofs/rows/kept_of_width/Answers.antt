-- `elements::rows::kept_of_width` meets its contract: a run is its bytes.
use Rattle.std.proofs.Common.{length}
use Rattle.elements.proofs.RunLaws.{ran}
use Rattle.elements.proofs.rows.kept_of_width.Goals as goal

pub returns-then-row-eq0 : goal.returns-then-row-eq0
returns-then-row-eq0 g c = ran g.row.W c.args.row.now.up c.args.row.now.down c.args.row.now.at c.args.row.now.count (length c.args.out.now) c.args.src.now _ c.if-row.true c.if-row-eq0.true c.requires.fits.out_len c.run.ensures
