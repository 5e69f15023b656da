-- `listing::lines::refused_line` meets its contract.
use Rattle.append.proofs.Appending.{within_then, within_is}
use Rattle.listing.proofs.LineLaws.{refused-line_is}
use Rattle.listing.proofs.lines.refused_line.Goals as goal

pub returns : goal.returns
returns c =
    within_is (refused-line_is c.args.e) (within_then (within_then c.append.ensures c.error_columns.ensures) c.append-2.ensures)
