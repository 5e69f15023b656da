-- `frame::dims::shape_of` meets its contract.
use native.Mathlib.Omega.{arith}
use Rattle.frame.proofs.ShapeLaws.{allowed, shape_one, shape_two, shape_three}
use Rattle.frame.proofs.dims.shape_of.Goals as goal

pub returns-in-1 : goal.returns-in-1
returns-in-1 c = shape_one c.args.f c.requires c.in-1.is

pub returns-in-2 : goal.returns-in-2
returns-in-2 c = shape_two c.args.f c.requires c.in-2.is

pub returns-in_default : goal.returns-in_default
returns-in_default c =
    let ok = allowed c.args.f c.requires in
    shape_three c.args.f c.requires (omega (arith, ok.n.low))
