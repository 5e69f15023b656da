-- `listing::lines::refused_columns` meets its contract.
use Rattle.append.proofs.Appending.{within_then, within_is}
use Rattle.listing.proofs.LineLaws.{refused_is}
use Rattle.listing.proofs.lines.refused_columns.Goals as goal

pub returns : goal.returns
returns c = within_is (refused_is c.args.e) (within_then c.append.ensures c.error_columns.ensures)
