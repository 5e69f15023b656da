-- `frame::check::configurations` meets its contract.
use mathlib.Core.Path.{◌≡◌, sym, ap}
use native.Mathlib.Omega.{arith}
use Rattle.raster.specs.Axis.{configurations}
use Rattle.frame.proofs.check.configurations.Goals as goal

pub returns-in-1 : goal.returns-in-1
unfolding configurations
returns-in-1 c = sym (ap configurations c.in-1.is)

pub returns-in-2 : goal.returns-in-2
unfolding configurations
returns-in-2 c = sym (ap configurations c.in-2.is)

pub returns-in_default : goal.returns-in_default
unfolding configurations
returns-in_default c = let three : c.args.n ≡ 3 = omega arith in sym (ap configurations three)
