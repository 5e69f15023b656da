-- `listing::list::append_listing` meets its contract.
use native.Mathlib.Omega.{arith}
use Rattle.append.proofs.Appending.{within_then, within_is, within_more}
use Rattle.listing.proofs.RowLaws.{file_rows, error_small, listing_too_large, listing-failed, listing-opened}
use Rattle.listing.proofs.list.append_listing.Goals as goal

pub returns-then-file-gt-FILE_LIMIT : goal.returns-then-file-gt-FILE_LIMIT
returns-then-file-gt-FILE_LIMIT c =
    within_is (listing_too_large _ c.if-file-gt-FILE_LIMIT.true) (within_more (omega arith) c.refused_line.ensures)

pub refused_line-requires-in-Err : goal.refused_line-requires-in-Err
refused_line-requires-in-Err c = (omega (arith, error_small _ _ c.opened.ensures (omega arith) c.in-Err.is), omega arith)

pub returns-in-Err : goal.returns-in-Err
returns-in-Err c =
    within_is (listing-failed _ _ c.opened.ensures (omega arith) c.in-Err.is) (within_more (omega arith) c.refused_line-in-Err.ensures)

pub block_lines-requires : goal.block_lines-requires
block_lines-requires c =
    record { file_rows = file_rows _ _ c.opened.ensures (omega arith) c.in-Ok.is; room = omega arith }

pub returns-in-Ok : goal.returns-in-Ok
returns-in-Ok c =
    within_is (listing-opened _ _ c.opened.ensures (omega arith) c.in-Ok.is) (within_then c.count_line.ensures c.block_lines.ensures)
