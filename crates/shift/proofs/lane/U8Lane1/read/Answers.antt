-- `shift::lane::U8Lane1::read` meets its contract.
use Rattle.std.proofs.Common.{rules}
use Rattle.shift.proofs.Digits.{read_one}
use Rattle.shift.proofs.lane.U8Lane1.read.Goals as goal

pub returns : goal.returns
returns c = read_one c.args.b c.args.order (search rules)
