-- A plane that is delivered tile by tile: a tile is some elements, the same of some rows.
use Rattle.std.specs.Prelude.{◌≡◌, Bool, cond, ◌&&◌, ◌⊎◌, List, ℕ, ◌*◌, ◌%◌, eqb, ltb, leb, take, drop}
use Rattle.raster.specs.Bytes.{joined}
use Rattle.raster.specs.Strided.{patched, place, row_of}
use Rattle.conversion.specs.declared.rows.Plane.{Plane}

-- Row i of a buffer whose rows have r bytes.
abbrev pub row_at : ℕ → ℕ → List ℕ → List ℕ
row_at r i l = take r (drop (r * i) l)

-- n rows of r bytes: in row i the k bytes from o on are replaced by f i.
unfoldable pub tiled : ℕ → ℕ → ℕ → ℕ → List ℕ → (ℕ → List ℕ) → List ℕ
tiled r n o k l f = joined n (λ (i : ℕ). patched o k (row_at r i l) (f i))

-- Of row i the k elements from index m on.
abbrev pub tile_row : (List ℕ → List ℕ) → ℕ → List ℕ → Plane → ℕ → ℕ → ℕ → List ℕ
tile_row f w s p m k i =
    row_of f w s (place (place p.first.at p.up p.down i) p.first.up p.first.down m) p.first.up p.first.down k

-- A stride that does not both rise and fall.
abbrev pub OneWay : ℕ → ℕ → Type 0
OneWay up down = (up ≡ 0) ⊎ (down ≡ 0)

-- Rows of n elements that are slow to read: the elements of a column are less than a cache line apart, and those of a row, which are
-- `apart` bytes apart, are too many for the cache.
unfoldable pub slow_rows : ℕ → ℕ → ℕ → Bool
slow_rows columns apart n = ltb columns 64 && cond (eqb (apart % 1024) 0) (leb 512 n) (leb 4096 apart && leb 2560 n)
