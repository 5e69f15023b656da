-- `listing::list::put_listing` meets its contract.
use borrow.Author.Rules.{rules}
use Rattle.append.proofs.Appending.{within_front}
use Rattle.listing.proofs.list.put_listing.Goals as goal

pub returns : goal.returns
returns c = within_front c.new-lines.ensures.value.0 c.new-lines.ensures.value.1 (search rules) c.append_listing.ensures
