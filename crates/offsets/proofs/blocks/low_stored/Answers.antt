-- `offsets::blocks::low_stored` meets its contract: the array has the elements with the low byte first.
use Rattle.std.proofs.Common.{true, false, length, ◌∙◌, eq-eqb, ne_eqb, arith}
use Rattle.raster.specs.Strided.{turned}
use Rattle.shift.specs.Shifting.{shifted_bytes}
use Rattle.shift.proofs.Digits.{length_shifted}
use Rattle.offsets.proofs.BlockLaws.{short_some, inside_run, by_way, turned-after}
use Rattle.offsets.proofs.blocks.low_stored.Goals as goal

pub returns-then-a-eq1 : goal.returns-then-a-eq1
returns-then-a-eq1 g c =
    let w = g.row.W in
    let a = c.args.a in
    let inside = inside_run w c.args.n (length c.args.src.now) (short_some c.requires.short.0) (omega (arith, c.requires.out_in_bounds, c.requires.out_len)) in
    by_way (turned true) (shifted_bytes w a.shift a.order 2) w (length_shifted a.shift a.order 2) c.args.src.now 0 w 0 c.args.n inside
    (length c.args.out.now) _ _ _ c.requires.out_len c.each_added.ensures c.reversed.ensures
    ∙ turned-after w a.shift a.order a.asked true c.args.src.now 0 w 0 c.args.n (eq-eqb a.asked 1 c.if-a-eq1.true)

pub returns-else-a-eq1 : goal.returns-else-a-eq1
returns-else-a-eq1 g c =
    let a = c.args.a in
    c.each_added-else-a-eq1.ensures
    ∙ turned-after g.row.W a.shift a.order a.asked false c.args.src.now 0 g.row.W 0 c.args.n (ne_eqb a.asked 1 c.if-a-eq1.false)
