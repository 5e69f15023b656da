-- What the parts of the lister are told of a row and of a description.
use Rattle.std.specs.Prelude.{◌≡◌, List, ℕ, ◌+◌, ◌≤◌, ◌<◌, length, Ok}
use Rattle.scan.specs.Outcome.{Outcome, ◌>>=◌}
use Rattle.blocks.specs.Opening.{opened}
use Rattle.blocks.specs.declared.Row.{Row}
use Rattle.keyword.specs.Keyword.{View, view_of}
use Rattle.keyword.specs.Viewing.{row_view}
use Rattle.description.specs.Describe.{description_in}
use Rattle.description.specs.declared.Description.{Description}
use Rattle.blocks.specs.Limits.{file_limit, block_limit}

-- The rows are those of the file, which is not too large.
pub record FileRows (s : List ℕ) (rows : List Row) : Type 0 where
  pub opens : opened s ≡ Ok rows
  pub few : length rows ≤ block_limit
  pub limit : length s ≤ file_limit

-- `row` is that of block k, and `first` that of block 0: the block has a view.
pub record IsRow (s : List ℕ) (first row : Row) (k : ℕ) : Type 0 where
  pub view : View
  pub viewed : row_view s first row ≡ Ok view
  pub found : view_of s k ≡ Ok view
  pub inside : row.start + row.header + row.size ≤ file_limit
  pub few : k < block_limit

-- The description by the rows.
unfoldable pub row_description : List ℕ → Row → Row → Outcome Description
row_description s first row = row_view s first row >>= description_in
