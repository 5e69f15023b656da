-- `shift::lane::U8Lane1::written` meets its contract.
use Rattle.std.proofs.Common.{rules}
use Rattle.shift.proofs.Digits.{written_one}
use Rattle.shift.proofs.lane.U8Lane1.written.Goals as goal

pub returns : goal.returns
returns c = written_one c.args.self c.args.arg2 (search rules)
