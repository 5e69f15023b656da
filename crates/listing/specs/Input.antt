-- What the program prints for its standard input.
use Rattle.std.specs.Prelude.{cond, List, ℕ, leb, length}
use Rattle.scan.specs.Outcome.{error_at}
use Rattle.listing.specs.Limits.{input_limit}
use Rattle.listing.specs.Listing.{refused_line, listing}

-- "It reads standard input, up to 65,536 bytes (more: `refused 1 0`)."
unfoldable pub input_listing : List ℕ → List ℕ
input_listing input = cond (leb (length input) input_limit) (listing input) (refused_line (error_at 1 0))
