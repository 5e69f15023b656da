-- `listing::list::block_lines` meets its contract.
use native.Mathlib.Omega.{arith}
use Rattle.append.proofs.Appending.{within_then, within_is, within_more, within_nothing}
use Rattle.listing.proofs.RowLaws.{is_row}
use Rattle.listing.specs.Listing.{block_lines}
use Rattle.listing.proofs.Listed.{lines_more}
use Rattle.listing.proofs.list.block_lines.Goals as goal

pub loop-number-init : goal.loop-number-init
unfolding block_lines
loop-number-init c = within_nothing (omega arith)

pub block_line-requires-clause-row : goal.block_line-requires-clause-row
block_line-requires-clause-row c = is_row _ c.requires.file_rows c.loop-number.number (omega arith) _

pub loop-number-preserved : goal.loop-number-preserved
loop-number-preserved c =
    within_is (lines_more _ c.loop-number.number c.args.rows.now _ (omega arith))
    (within_more (omega arith) (within_then c.loop-number.invariant c.block_line.ensures))
