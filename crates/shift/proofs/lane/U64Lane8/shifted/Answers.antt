-- `shift::lane::U64Lane8::shifted` meets its contract: the steps at the high end.
use Rattle.std.proofs.Common.{◌∙◌, rules}
use Rattle.shift.specs.HighEnd.{shift_high}
use Rattle.shift.proofs.HighEnd.{shifted_8}
use Rattle.shift.proofs.lane.U64Lane8.shifted.Goals as goal

pub returns-clause-high : goal.returns-clause-high
unfolding shift_high
returns-clause-high c = search rules

pub returns-clause-value : goal.returns-clause-value
returns-clause-value c = returns-clause-high c ∙ shifted_8 c.args.s c.args.self
