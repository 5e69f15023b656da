-- `frame::check::within` meets its contract.
use borrow.Author.Rules.{rules}
use Rattle.frame.proofs.check.within.Goals as goal

pub returns : goal.returns
returns c = search rules
