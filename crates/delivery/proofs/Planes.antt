-- Rows and planes one after another, and the elements of an array that all stand inside the file.
use mathlib.Core.Path.{◌≡◌, ap, ◌∙◌}
use mathlib.Core.List.{List, [], ◌∷◌}
use Prim.Native.Nat.{ℕ, zero, suc, ◌*◌, ◌<◌}
use native.Mathlib.Omega.{arith}
use lib.IntN.{ℤ}
use lib.ListN.{length, get_or, take, drop}
use Rattle.raster.specs.Element.{element_bytes}
use Rattle.raster.specs.Strided.{Octets, place, Inside, Inside3, row_of, plane_of, delivered_at}
use Rattle.raster.specs.Types.{DataType}
use Rattle.raster.specs.declared.stride.Steps.{Steps}
use Rattle.raster.proofs.Joined.{joined_same}
use Rattle.strides.proofs.Filling.{length-joined}
use Rattle.strides.proofs.RowLaws.{length_element}
use Rattle.conversion.proofs.Lengths.{length_rows}
use Rattle.conversion.specs.Converting.{converted, Converts}
use Rattle.conversion.specs.Plane.{rows_of}
use Rattle.conversion.specs.declared.conversion.Conversion.{Conversion}
use Rattle.delivery.specs.Cube.{plane_at, IsCubeInside, planes_of}
use Rattle.delivery.specs.declared.arrays.Cube.{Cube}

pub length_planes : (c : Conversion) (s : List ℕ) (a : Cube) → IsCubeInside a c.width (length s) → (i : ℕ) → i < a.count
    → length (rows_of (converted c) c.width s (plane_at a i)) ≡ c.width * a.first.first.count * a.first.count
unfolding plane_of
length_planes c s a inside i h =
    length-joined a.first.count (c.width * a.first.first.count) _ (length_rows c s (plane_at a i) (inside i h).1)

-- ---- Bytes of a part

pub octets_all : (l : List ℕ) → ((k : ℕ) → get_or l k 0 < 256) → Octets l
octets_all [] h = tt
octets_all (b ∷ l) h = (h 0, octets_all l (λ k. h (suc k)))

octets_drop : (p : ℕ) (l : List ℕ) → Octets l → Octets (drop p l)
octets_drop zero l h = h
octets_drop (suc p) [] h = tt
octets_drop (suc p) (b ∷ l) (h, more) = octets_drop p l more

octets_take : (n : ℕ) (l : List ℕ) → Octets l → Octets (take n l)
octets_take zero l h = tt
octets_take (suc n) [] h = tt
octets_take (suc n) (b ∷ l) (h, more) = (h, octets_take n l more)

-- ---- All elements

-- The cube at the steps of an array.
abbrev pub cube_at : Steps → ℕ → ℕ → ℕ → Cube
cube_at t n1 n2 n3 =
    record {
      first = record { first = record { at = t.at; up = t.up1; down = t.down1; count = n1 }; up = t.up2; down = t.down2; count = n2 };
      up = t.up3;
      down = t.down3;
      count = n3;
    }

module _ (t : DataType) (order : ℕ) (offset : ℤ) (asked : ℕ) (c : Conversion) (converts : Converts t order offset asked c)
    (s : List ℕ) (octets : Octets s) where
  row_delivered : (at up down n : ℕ) → Inside at up down n t.width (length s)
      → row_of (converted c) t.width s at up down n ≡ row_of (element_bytes t order offset asked) t.width s at up down n
  unfolding row_of
  row_delivered at up down n inside =
      joined_same n _ _
      (λ i h.
      let k = inside i h in
      let p = place at up down i in
      converts.right (take t.width (drop p s)) (octets_take t.width (drop p s) (octets_drop p s octets))
      (length_element t.width s p (omega arith)))

  pub cube_delivered : (steps : Steps) (n1 n2 n3 : ℕ) → Inside3 steps n1 n2 n3 t.width (length s)
      → planes_of (converted c) c.width s (cube_at steps n1 n2 n3) ≡ delivered_at t order offset asked s steps n1 n2 n3
  unfolding planes_of plane_of delivered_at row_of
  cube_delivered steps n1 n2 n3 inside =
      ap (λ (w : ℕ). planes_of (converted c) w s (cube_at steps n1 n2 n3)) converts.wide
      ∙ joined_same n3 _ _ (λ i3 h3. joined_same n2 _ _ (λ i2 h2. row_delivered _ _ _ n1 ((inside i3 h3).1 i2 h2).1))
