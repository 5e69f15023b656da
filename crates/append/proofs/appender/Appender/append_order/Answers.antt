-- `append::appender::Appender::append_order` meets its contract.
use native.Mathlib.Omega.{arith}
use Rattle.append.proofs.Appending.{within_is, within_more}
use Rattle.append.proofs.WordLaws.{order_high, order_low}
use Rattle.append.proofs.appender.Appender.append_order.Goals as goal

pub returns-then-byteorder-eq1 : goal.returns-then-byteorder-eq1
returns-then-byteorder-eq1 c = within_is (order_high _ c.if-byteorder-eq1.true) c.append.ensures

pub returns-else-byteorder-eq1 : goal.returns-else-byteorder-eq1
returns-else-byteorder-eq1 c = within_is (order_low c.args.byteorder (omega arith)) (within_more (omega arith) c.append-else-byteorder-eq1.ensures)
