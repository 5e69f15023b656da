-- `rendering::filling::filling` meets its contract.
use mathlib.Core.Path.{refl}
use Rattle.rendering.specs.Render.{padding}
use Rattle.rendering.proofs.filling.filling.Goals as goal

pub returns : goal.returns
unfolding padding
returns c = refl
