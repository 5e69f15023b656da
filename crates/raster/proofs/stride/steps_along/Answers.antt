-- `raster::stride::steps_along` meets its contract.
use mathlib.Core.Path.{refl}
use Rattle.raster.proofs.Lines.{steps_made}
use Rattle.raster.proofs.stride.steps_along.Goals as goal

pub returns : goal.returns
returns c =
    steps_made c.args.x c.args.y c.args.z _ c.start.result c.start-2.result c.start-3.result
    c.start.ensures c.start-2.ensures c.start-3.ensures refl
    c.up.ensures c.down.ensures c.up-2.ensures c.down-2.ensures c.up-3.ensures c.down-3.ensures
