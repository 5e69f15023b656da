-- `header::statements::is_separator` meets its contract: each way through the tests is one way through `separator`.
use borrow.Author.Tests.{eq-eqb, ne_eqb}
use Rattle.header.specs.Checks.{separator}
use Rattle.header.proofs.statements.is_separator.Goals as goal

pub returns-then-b-eq61 : goal.returns-then-b-eq61
unfolding separator
returns-then-b-eq61 c = simp (eq-eqb _ _ c.if-b-eq61.true)

pub returns-else-b-eq61 : goal.returns-else-b-eq61
unfolding separator
returns-else-b-eq61 c = simp (ne_eqb _ _ c.if-b-eq61.false)
