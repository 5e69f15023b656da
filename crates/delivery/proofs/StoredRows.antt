-- Rows whose elements stand one after another, and none changes, are runs of bytes.
use mathlib.Core.Path.{◌≡◌, refl, ap, ◌∙◌}
use mathlib.Core.Bool.{true, false, false≢true}
use mathlib.Core.List.{List}
use Prim.Native.Nat.{ℕ, ◌*◌}
use native.Mathlib.Nat.{one-mul}
use borrow.Author.Tests.{eqb-true}
use lib.ListN.{take, drop}
use Rattle.scan.proofs.Cases.{both_true}
use Rattle.raster.specs.Strided.{turned, place, row_of, plane_of}
use Rattle.raster.specs.declared.stride.Steps.{Steps}
use Rattle.raster.proofs.Joined.{joined_same}
use Rattle.elements.proofs.RunLaws.{flat, ran}
use Rattle.elements.proofs.Ways.{either_order}
use Rattle.conversion.specs.Converting.{made_by, converted}
use Rattle.conversion.specs.declared.conversion.Conversion.{Conversion}
use Rattle.conversion.specs.declared.conversion.Way.{Way}
use Rattle.conversion.specs.declared.conversion.Way.TheVariants.{Kept, Reversed, Added}
use Rattle.conversion.specs.Plane.{rows_of}
use Rattle.conversion.specs.declared.rows.Plane.{Plane}
use Rattle.delivery.specs.Flat.{unchanged, is_run, as_stored}

row_unchanged : (y : Way) (w : ℕ) (s : List ℕ) (at up down n : ℕ) → unchanged y w ≡ true
    → row_of (turned false) w s at up down n ≡ row_of (made_by w y) w s at up down n
unfolding made_by
row_unchanged Kept w s at up down n e = refl
row_unchanged Reversed w s at up down n e = either_order w s at up down n (eqb-true w 1 e)
row_unchanged (Added a) w s at up down n e = absurd (false≢true e)

-- Where a row is a run.
module _ (c : Conversion) (up down : ℕ) (is : is_run c up down ≡ true) where
  pub run_up : up ≡ c.width
  run_up = eqb-true up c.width (both_true _ _ (both_true _ _ is).1).0

  pub run_down : down ≡ 0
  run_down = eqb-true down 0 (both_true _ _ (both_true _ _ is).1).1

  pub run_unchanged : (s : List ℕ) (at n : ℕ) → row_of (turned false) c.width s at up down n ≡ row_of (converted c) c.width s at up down n
  run_unchanged s at n = row_unchanged c.way c.width s at up down n (both_true _ _ is).0

-- The rows of a plane that are runs.
pub plane_unchanged : (c : Conversion) (p : Plane) → is_run c p.first.up p.first.down ≡ true → (s : List ℕ)
    → rows_of (turned false) c.width s p ≡ rows_of (converted c) c.width s p
unfolding plane_of
plane_unchanged c p is s =
    joined_same p.count _ _ (λ i h. run_unchanged c p.first.up p.first.down is s (place p.first.at p.up p.down i) p.first.count)

-- The bytes of a run are the elements,
row_bytes : (w up down at n : ℕ) → up ≡ w → down ≡ 0 → (s : List ℕ)
    → row_of (turned false) 1 s at 1 0 (w * n) ≡ row_of (turned false) w s at up down n
row_bytes w up down at n u d s =
    let m = w * n in
    ran w up down at n m s _ u d refl (flat 1 s at m ∙ ap (λ (k : ℕ). take k (drop at s)) (one-mul m))

-- and so are those of runs.
pub plane_bytes : (w : ℕ) (p : Plane) → p.first.up ≡ w → p.first.down ≡ 0 → (s : List ℕ)
    → plane_of (turned false) 1 s p.first.at 1 0 (w * p.first.count) p.up p.down p.count ≡ rows_of (turned false) w s p
unfolding plane_of
plane_bytes w p up down s =
    joined_same p.count _ _ (λ i h. row_bytes w p.first.up p.first.down (place p.first.at p.up p.down i) p.first.count up down s)

-- What is delivered as it is stored: the bytes of a row, and of a plane, are those of its elements.
module _ (c : Conversion) (t : Steps) (is : as_stored c t ≡ true) where
  row_stored : (s : List ℕ) (at n : ℕ) → row_of (turned false) 1 s at 1 0 (c.width * n) ≡ row_of (converted c) c.width s at t.up1 t.down1 n
  unfolding as_stored
  row_stored s at n =
      row_bytes c.width t.up1 t.down1 at n (run_up c t.up1 t.down1 is) (run_down c t.up1 t.down1 is) s
      ∙ run_unchanged c t.up1 t.down1 is s at n

  pub plane_stored : (s : List ℕ) (at n1 n2 : ℕ)
      → plane_of (turned false) 1 s at 1 0 (c.width * n1) t.up2 t.down2 n2
      ≡ plane_of (converted c) c.width s at t.up1 t.down1 n1 t.up2 t.down2 n2
  unfolding plane_of
  plane_stored s at n1 n2 = joined_same n2 _ _ (λ i h. row_stored s (place at t.up2 t.down2 i) n1)
