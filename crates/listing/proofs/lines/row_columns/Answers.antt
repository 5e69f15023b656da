-- `listing::lines::row_columns` meets its contract.
use lib.IntN.{pos}
use Rattle.text.specs.Decimal.{decimal}
use Rattle.append.proofs.Appending.{within_then, within_is}
use Rattle.listing.proofs.LineLaws.{row_is}
use Rattle.listing.proofs.lines.row_columns.Goals as goal

pub returns : goal.returns
returns c =
    within_is (row_is c.args.row (decimal (pos c.args.number)))
    (within_then (within_then (within_then (within_then c.append_natural.ensures c.number_after.ensures) c.number_after-2.ensures) c.number_after-3.ensures) c.identity_column.ensures)
