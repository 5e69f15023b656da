-- A plane that is delivered band by band.
use mathlib.Core.Path.{◌≡◌, sym, ap, subst, ◌∙◌}
use mathlib.Core.List.{List, ◌++◌}
use Prim.Native.Nat.{ℕ, ◌+◌, ◌-◌, ◌*◌, ◌≤◌, ◌<◌}
use native.Mathlib.Nat.{mul-add}
use native.Mathlib.Omega.{arith}
use lib.ListN.{length, take, drop, length-take, length-drop}
use Rattle.scan.specs.Buffer.{over}
use Rattle.raster.specs.Strided.{patched, place, Inside, Inside2, row_of, plane_of}
use Rattle.raster.proofs.Joined.{joined_add, joined_same}
use Rattle.strides.proofs.Filling.{length-joined, over_part, pieces_done}
use Rattle.strides.proofs.RowLaws.{length_row}
use Rattle.delivery.proofs.TileLaws.{within, inside_from, place_from}

-- Of rows of m bytes, n from index i on.
pub part_size : (m i n : ℕ) → m * (i + n) - m * i ≡ m * n
part_size m i n = omega (arith, mul-add m i n)

pub part_room : (m i n count : ℕ) (l : List ℕ) → i + n ≤ count → length l ≡ m * count → length (take (m * (i + n) - m * i) (drop (m * i) l)) ≡ m * n
part_room m i n count l h e = simp (length-take, length-drop) (omega (arith, mul-add m i n, within m i n count h))

module _ (f : List ℕ → List ℕ) (w : ℕ) (keeps : (l : List ℕ) → length l ≡ w → length (f l) ≡ w) (s : List ℕ) (at up1 down1 n1 up2 down2 n2 : ℕ)
    (inside : Inside2 at up1 down1 n1 up2 down2 n2 w (length s)) where
  abbrev rows_of : ℕ → ℕ → List ℕ
  rows_of p n = plane_of f w s p up1 down1 n1 up2 down2 n

  row_length : (i : ℕ) → i < n2 → length (row_of f w s (place at up2 down2 i) up1 down1 n1) ≡ w * n1
  row_length i h = length_row f w keeps s (place at up2 down2 i) up1 down1 n1 (inside i h).1

  module _ (a h : ℕ) (fits : a + h ≤ n2) where
    next : (i : ℕ) → i < h → place at up2 down2 (a + i) ≡ place (place at up2 down2 a) up2 down2 i
    next = place_from at up2 down2 n2 0 (length s) (λ i k. (inside i k).0) a h fits

    pub band_inside : Inside2 (place at up2 down2 a) up1 down1 n1 up2 down2 h w (length s)
    band_inside i k = (
      inside_from at up2 down2 n2 0 (length s) (λ i k. (inside i k).0) a h fits i k,
      subst (λ (p : ℕ). Inside p up1 down1 n1 w (length s)) (next i k) (inside (a + i) (omega arith)).1,
    )

    plane_parts : rows_of at (a + h) ≡ rows_of at a ++ rows_of (place at up2 down2 a) h
    unfolding plane_of
    plane_parts =
        joined_add _ a h
        ∙ ap (λ (l : List ℕ). rows_of at a ++ l) (joined_same h _ _ (λ i k. ap (λ (p : ℕ). row_of f w s p up1 down1 n1) (next i k)))

    -- A turn: the next band is delivered.
    pub bands_more : (o k : ℕ) (d l q : List ℕ) → l ≡ over (rows_of at a) d → o ≡ w * n1 * a → k ≡ w * n1 * h → q ≡ rows_of (place at up2 down2 a) h
        → patched o k l q ≡ over (rows_of at (a + h)) d
    unfolding plane_of
    bands_more o k d l q e b c g =
        over_part (rows_of at a) q d l o k e
        (length-joined a (w * n1) _ (λ i j. row_length i (omega arith)) ∙ sym b)
        (ap length g ∙ length-joined h (w * n1) _ (λ i j. length_row f w keeps s _ up1 down1 n1 (band_inside i j).1) ∙ sym c)
        ∙ ap (λ (x : List ℕ). over x d) (ap (λ (x : List ℕ). rows_of at a ++ x) g ∙ sym plane_parts)

  -- The end: all are.
  pub bands_done : (i : ℕ) (d l : List ℕ) → i ≤ n2 → n2 ≤ i → length d ≡ w * n1 * n2 → l ≡ over (rows_of at i) d → l ≡ rows_of at n2
  unfolding plane_of
  bands_done i d l h k e g = pieces_done _ (w * n1) n2 d row_length i l h k e g
