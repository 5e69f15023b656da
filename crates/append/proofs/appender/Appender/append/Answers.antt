-- `append::appender::Appender::append` meets its contract.
use mathlib.Core.Path.{refl}
use native.Mathlib.Omega.{arith}
use Rattle.append.proofs.Appending.{whole_appended, within}
use Rattle.append.proofs.appender.Appender.append.Goals as goal

pub returns : goal.returns
returns c =
    let all = c.args.self.now in
    within (whole_appended c.args.bytes.now all.bytes.now _ all.at _ _ c.copy_from_slice.ensures.after (omega arith) refl (omega arith)) refl
