-- `offsets::blocks::block` meets its contract: the array has the elements as they are stored, with the low byte of each first.
use Rattle.std.proofs.Common.{length, sym, ◌∙◌, eqb}
use Rattle.raster.specs.Strided.{turned}
use Rattle.strides.proofs.RowLaws.{keeps}
use Rattle.shift.specs.Shifting.{shifted_bytes}
use Rattle.offsets.proofs.BlockLaws.{stored, row_same, by_way}
use Rattle.offsets.proofs.blocks.block.Goals as goal

pub returns : goal.returns
returns g c =
    let w = g.row.W in
    let a = c.args.a in
    let r = c.args.row in
    by_way (shifted_bytes w a.shift 2 a.asked) (turned (eqb a.order 1)) w (keeps (eqb a.order 1)) c.args.src.now r.at r.up r.down r.count
    c.requires.fits.inside (length c.args.out.now) _ _ _ c.requires.fits.out_len c.low_first.ensures c.low_stored.ensures
    ∙ row_same _ _ w c.args.src.now r.at r.up r.down r.count (λ l. sym (stored w a.shift a.order a.asked l))
