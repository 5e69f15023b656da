-- The bytes of an element that is made anew, and of a row of them.
use mathlib.Core.Path.{◌≡◌, ◌∙◌}
use mathlib.Core.Bool.{true}
use mathlib.Core.List.{List}
use Prim.Native.Nat.{ℕ, ◌*◌, ◌<◌}
use lib.ListN.{length}
use Rattle.raster.specs.Strided.{place, row_of}
use Rattle.raster.proofs.RoundTrip.{length-turned}
use Rattle.strides.proofs.RowLaws.{length_row}
use Rattle.shift.proofs.Digits.{length_added}
use Rattle.conversion.specs.Converting.{made_by, converted}
use Rattle.conversion.specs.Plane.{IsInside}
use Rattle.conversion.specs.declared.rows.Plane.{Plane}
use Rattle.conversion.specs.declared.conversion.Conversion.{Conversion}
use Rattle.conversion.specs.declared.conversion.Way.{Way}
use Rattle.conversion.specs.declared.conversion.Way.TheVariants.{Kept, Reversed, Added}

length-made : (y : Way) {w : ℕ} (l : List ℕ) → length l ≡ w → length (made_by w y l) ≡ w
unfolding made_by
length-made Kept l e = e
length-made Reversed l e = length-turned true l ∙ e
length-made (Added a) l e = length_added a l e

pub length-converted : (c : Conversion) (l : List ℕ) → length l ≡ c.width → length (converted c l) ≡ c.width
length-converted c l e = length-made c.way l e

-- Each row of a plane.
pub length_rows : (c : Conversion) (s : List ℕ) (p : Plane) → IsInside p c.width (length s) → (i : ℕ) → i < p.count
    → length (row_of (converted c) c.width s (place p.first.at p.up p.down i) p.first.up p.first.down p.first.count) ≡ c.width * p.first.count
length_rows c s p inside i h =
    length_row (converted c) c.width (length-converted c) s (place p.first.at p.up p.down i) p.first.up p.first.down p.first.count (inside i h).1
