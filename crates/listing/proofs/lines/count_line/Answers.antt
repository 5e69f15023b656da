-- `listing::lines::count_line` meets its contract.
use Rattle.append.proofs.Appending.{within_then, within_is}
use Rattle.listing.proofs.LineLaws.{count_line_is}
use Rattle.listing.proofs.lines.count_line.Goals as goal

pub returns : goal.returns
returns c =
    within_is (count_line_is c.args.n) (within_then (within_then c.append.ensures c.number_after.ensures) c.append-2.ensures)
