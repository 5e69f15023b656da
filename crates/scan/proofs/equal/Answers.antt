use Rattle.std.proofs.Common.{◌∙◌}
use Rattle.scan.proofs.Equals.{pointwise-same}
use Rattle.scan.proofs.equal.Goals as goal

pub returns : goal.returns
returns c = c.eq.ensures ∙ pointwise-same c.args.a.now c.args.b.now
