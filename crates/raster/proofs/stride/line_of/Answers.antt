-- `raster::stride::line_of` meets its contract: by the place of the index in the order.
use Rattle.raster.proofs.StepLaws.{line_first, line_second, line_third, line_none}
use Rattle.raster.proofs.stride.line_of.Goals as goal

pub returns-then-o-k : goal.returns-then-o-k
returns-then-o-k c = line_first _ _ _ c.args.o _ _ c.dim_of-fast.ensures c.dim_of-next.ensures c.if-o-k.true

pub returns-then-o-k-2 : goal.returns-then-o-k-2
returns-then-o-k-2 c =
    line_second _ _ _ c.args.o _ _ c.dim_of-fast.ensures c.dim_of-next.ensures
    c.if-o-k.false c.if-o-k-2.true

pub returns-then-o-k-3 : goal.returns-then-o-k-3
returns-then-o-k-3 c =
    line_third _ _ _ c.args.o _ _ c.dim_of-fast.ensures c.dim_of-next.ensures
    c.if-o-k.false c.if-o-k-2.false _ c.dim_of.ensures c.if-o-k-3.true

pub returns-else-o-k-3 : goal.returns-else-o-k-3
returns-else-o-k-3 c =
    line_none _ _ _ c.args.o _ _ c.dim_of-fast.ensures c.dim_of-next.ensures
    c.if-o-k.false c.if-o-k-2.false c.if-o-k-3.false
