use Rattle.std.proofs.Common.{rules, ap, ◌∙◌}
use Rattle.raster.specs.Bytes.{joined}
use Rattle.raster.specs.Strided.{row_of}
use Rattle.strides.proofs.Filling.{joined_more, joined_all}
use Rattle.strides.proofs.rows.each.Goals as goal

pub loop-i-init : goal.loop-i-init
unfolding row_of joined
loop-i-init g c = search rules

pub loop-i-preserved : goal.loop-i-preserved
unfolding row_of
loop-i-preserved g c =
    joined_more _ g.row.W c.args.out.now c.loop-i.i c.loop-i.out c.change.result _ c.loop-i.invariant (search rules)
    (c.change.ensures ∙ ap (g.C.Change.made c.args.by.now) c.element.ensures) c.put.ensures

pub returns : goal.returns
unfolding row_of
returns g c = joined_all _ g.row.W c.args.out.now c.loop-i.i c.args.row.count c.loop-i.out c.loop-i.auto.i-end c.loop-i-test.false c.requires.out_len c.loop-i.invariant
