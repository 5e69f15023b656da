-- `shift::lane::U32Lane4::shifted` meets its contract.
use Rattle.std.proofs.Common.{rules}
use Rattle.shift.specs.Shifting.{shift_by}
use Rattle.shift.proofs.lane.U32Lane4.shifted.Goals as goal

pub returns : goal.returns
unfolding shift_by
returns c = search rules
