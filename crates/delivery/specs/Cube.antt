-- A cube: its planes, that it can be delivered, and what is delivered of it.
use Rattle.std.specs.Prelude.{List, ℕ, ◌*◌, ◌^◌, ◌<◌, ◌≤◌}
use Rattle.raster.specs.Bytes.{joined}
use Rattle.raster.specs.Strided.{place, Stands}
use Rattle.conversion.specs.Plane.{IsInside, rows_of}
use Rattle.conversion.specs.declared.rows.Plane.{Plane}
use Rattle.delivery.specs.declared.arrays.Cube.{Cube}

-- The plane with index i.
abbrev pub plane_at : Cube → ℕ → Plane
plane_at c i =
    record {
      first = record { at = place c.first.first.at c.up c.down i; up = c.first.first.up; down = c.first.first.down; count = c.first.first.count };
      up = c.first.up;
      down = c.first.down;
      count = c.first.count;
    }

-- The elements of a cube, of w bytes each, stand inside `src` bytes.
abbrev pub IsCubeInside : Cube → ℕ → ℕ → Type 0
IsCubeInside c w src = (i : ℕ) → i < c.count → Stands c.first.first.at c.up c.down 0 src i × IsInside (plane_at c i) w src

-- They have room in a buffer of `out` bytes.
abbrev pub HasRoom : Cube → ℕ → ℕ → Type 0
HasRoom c w out = (w * c.first.first.count < 2 ^ 64) × (w * c.first.first.count * c.first.count * c.count ≤ out)

-- The elements of a cube, each made anew by f.
unfoldable pub planes_of : (List ℕ → List ℕ) → ℕ → List ℕ → Cube → List ℕ
planes_of f w s c = joined c.count (λ (i : ℕ). rows_of f w s (plane_at c i))
