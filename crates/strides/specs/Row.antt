-- A row of elements: that it can be moved, and what is made of it.
use Rattle.std.specs.Prelude.{◌≡◌, List, ℕ, ◌*◌}
use Rattle.raster.specs.Strided.{Inside, row_of}
use Rattle.strides.specs.declared.places.Row.{Row}

-- The elements of a row, of w bytes each, stand inside `src` bytes, and fill a buffer of `out` bytes.
pub record Fits (r : Row) (w src out : ℕ) : Type 0 where
  pub inside : Inside r.at r.up r.down r.count w src
  pub out_len : out ≡ w * r.count

-- The elements of a row, each made anew by f.
abbrev pub elements_of : (List ℕ → List ℕ) → ℕ → List ℕ → Row → List ℕ
elements_of f w s r = row_of f w s r.at r.up r.down r.count
