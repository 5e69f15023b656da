-- Planes whose rows stand one after another, cubes whose planes do, and rows that are delivered as they are stored.
use Rattle.std.specs.Prelude.{Bool, ◌&&◌, ℕ, ◌*◌, eqb, true, false}
use Rattle.conversion.specs.declared.rows.Plane.{Plane}
use Rattle.delivery.specs.declared.arrays.Cube.{Cube}
use Rattle.raster.specs.declared.stride.Steps.{Steps}
use Rattle.conversion.specs.declared.conversion.Conversion.{Conversion}
use Rattle.conversion.specs.declared.conversion.Way.{Way}
use Rattle.conversion.specs.declared.conversion.Way.TheVariants.{Kept, Reversed, Added}

-- The rows of a plane, of elements of w bytes, stand one after another.
unfoldable pub flat : ℕ → Plane → Bool
flat w p = eqb p.first.up w && (eqb p.first.down 0 && (eqb p.down 0 && eqb p.up (w * p.first.count)))

-- The planes of a cube do too.
unfoldable pub flat_cube : ℕ → Cube → Bool
flat_cube w c = eqb c.down 0 && (eqb c.up (w * c.first.first.count * c.first.count) && flat w c.first)

-- The bytes of an element of w stay as they stand.
abbrev pub unchanged : Way → ℕ → Bool
unchanged Kept w = true
unchanged Reversed w = eqb w 1
unchanged (Added a) w = false

-- The elements of a row, each `up` bytes above the one before it or `down` bytes below, stand one after another, and none changes.
abbrev pub is_run : Conversion → ℕ → ℕ → Bool
is_run c up down = unchanged c.way c.width && (eqb up c.width && eqb down 0)

-- So do those along index 1.
unfoldable pub as_stored : Conversion → Steps → Bool
as_stored c t = is_run c t.up1 t.down1
