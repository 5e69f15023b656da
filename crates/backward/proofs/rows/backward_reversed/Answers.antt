-- `backward::rows::backward_reversed` meets its contract: its elements are single bytes backwards.
use Rattle.std.proofs.Common.{true, ◌∙◌}
use Rattle.raster.specs.Strided.{turned}
use Rattle.backward.proofs.BackwardLaws.{bytes_are, none}
use Rattle.backward.proofs.rows.backward_reversed.Goals as goal

pub returns-then-row-gt0 : goal.returns-then-row-gt0
returns-then-row-gt0 g c =
    c.backward.ensures ∙ bytes_are g.row.W c.args.src.now c.args.row c.requires.up c.requires.down c.requires.fits.inside

pub returns-else-row-gt0 : goal.returns-else-row-gt0
returns-else-row-gt0 g c =
    none (turned true) g.row.W c.args.src.now c.args.row.at c.args.row.up c.args.row.down c.args.row.count c.args.out.now c.if-row-gt0.false c.requires.fits.out_len
