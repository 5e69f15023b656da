-- `listing::lines::block_line` meets its contract.
use native.Mathlib.Omega.{arith}
use Rattle.append.proofs.Appending.{within_then, within_is}
use Rattle.listing.proofs.LineLaws.{block_line_is}
use Rattle.listing.proofs.RowLaws.{row_description_lem}
use Rattle.listing.proofs.lines.block_line.Goals as goal

pub detail_columns-requires : goal.detail_columns-requires
detail_columns-requires c = record { row = (c.args.number, c.requires.row); room = omega arith }

pub returns : goal.returns
returns c =
    within_is (block_line_is _ _ _ (row_description_lem _ c.requires.row))
    (within_then (within_then c.row_columns.ensures c.detail_columns.ensures) c.append.ensures)
