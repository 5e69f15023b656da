-- `append::appender::Appender::append_instance` meets its contract.
use native.Mathlib.Omega.{arith}
use Rattle.append.proofs.Appending.{within_is, within_more}
use Rattle.append.proofs.WordLaws.{instance_psd, instance_error}
use Rattle.append.proofs.appender.Appender.append_instance.Goals as goal

pub returns-then-instance-eq1 : goal.returns-then-instance-eq1
returns-then-instance-eq1 c = within_is (instance_psd _ c.if-instance-eq1.true) (within_more (omega arith) c.append.ensures)

pub returns-else-instance-eq1 : goal.returns-else-instance-eq1
returns-else-instance-eq1 c = within_is (instance_error _ c.if-instance-eq1.false) c.append-else-instance-eq1.ensures
