-- The listing of a file of one data block that is described.
use Rattle.std.specs.Prelude.{Ok}
use mathlib.Core.Path.{◌≡◌}
use mathlib.Core.List.{List, [], ◌∷◌, ◌++◌, append-nil}
use Prim.Native.Nat.{ℕ, ◌≤◌}
use borrow.Author.Tests.{ne_eqb}
use native.Mathlib.Omega.{arith}
use lib.ListN.{length}
use Rattle.blocks.specs.Grammar.{Partition}
use Rattle.blocks.specs.Opening.{opened_file}
use Rattle.blocks.specs.declared.Row.{Row}
use Rattle.blocks.proofs.Answers.{file_accepted}
use Rattle.description.specs.Describe.{description_of}
use Rattle.description.specs.declared.Description.{Description}
use Rattle.columns.specs.Columns.{number, array_columns}
use Rattle.blocks.specs.Limits.{file_limit}
use Rattle.listing.specs.Listing.{line, description_columns, details, row_columns, block_line, block_lines, count_line, listing, listing_of}

pub one_block_listing : (s : List ℕ) (row : Row) (d : Description) → Partition s (row ∷ []) → length s ≤ file_limit → row.kind ≡ 1
    → description_of s 0 ≡ Ok d → listing s ≡ count_line 1 ++ line (number 0) (row_columns row ++ array_columns d)
unfolding listing listing_of block_lines block_line details description_columns
one_block_listing s row d c small k e =
    let opens : opened_file s ≡ Ok (row ∷ []) = (file_accepted s small).1 c in
    rw (opens, e, ne_eqb row.kind 0 (λ z. absurd (omega arith)), append-nil)
