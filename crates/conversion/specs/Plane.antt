-- A plane: that it can be delivered, and what is delivered of it.
use Rattle.std.specs.Prelude.{◌≡◌, List, ℕ, ◌*◌}
use Rattle.raster.specs.Strided.{place, Inside2, plane_of}
use Rattle.strides.specs.declared.places.Row.{Row}
use Rattle.conversion.specs.declared.rows.Plane.{Plane}

-- The row with index i.
abbrev pub row_at : Plane → ℕ → Row
row_at p i = record { at = place p.first.at p.up p.down i; up = p.first.up; down = p.first.down; count = p.first.count }

-- The elements of a plane, of w bytes each, stand inside `src` bytes.
abbrev pub IsInside : Plane → ℕ → ℕ → Type 0
IsInside p w src = Inside2 p.first.at p.first.up p.first.down p.first.count p.up p.down p.count w src

-- They fill a buffer of `out` bytes.
abbrev pub FillsOut : Plane → ℕ → ℕ → Type 0
FillsOut p w out = out ≡ w * p.first.count * p.count

-- The elements of a plane, each made anew by f.
abbrev pub rows_of : (List ℕ → List ℕ) → ℕ → List ℕ → Plane → List ℕ
rows_of f w s p = plane_of f w s p.first.at p.first.up p.first.down p.first.count p.up p.down p.count
