-- `listing::list::append_input_listing` meets its contract.
use native.Mathlib.Omega.{arith}
use Rattle.append.proofs.Appending.{within_is, within_more}
use Rattle.listing.proofs.RowLaws.{input_too_large, input_small}
use Rattle.listing.proofs.list.append_input_listing.Goals as goal

pub returns-then-input-gt-INPUT_LIMIT : goal.returns-then-input-gt-INPUT_LIMIT
returns-then-input-gt-INPUT_LIMIT c =
    within_is (input_too_large _ c.if-input-gt-INPUT_LIMIT.true) (within_more (omega arith) c.refused_line.ensures)

pub returns-else-input-gt-INPUT_LIMIT : goal.returns-else-input-gt-INPUT_LIMIT
returns-else-input-gt-INPUT_LIMIT c = within_is (input_small _ c.if-input-gt-INPUT_LIMIT.false) c.append_listing.ensures
