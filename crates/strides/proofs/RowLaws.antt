-- Rows of elements at strides.
use mathlib.Core.Path.{◌≡◌, refl, sym, ap, subst, ◌∙◌}
use mathlib.Core.Logic.{inl, inr}
use mathlib.Core.Bool.{Bool}
use mathlib.Core.List.{List}
use Prim.Native.Nat.{ℕ, ◌+◌, ◌*◌, ◌≤◌, ◌<◌}
use native.Mathlib.Omega.{arith}
use lib.ListN.{length, take, drop, length-take, length-drop}
use Rattle.scan.specs.Buffer.{over}
use Rattle.raster.specs.Strided.{turned, patched, place, Inside, Width, row_of}
use Rattle.raster.proofs.RoundTrip.{length-turned}
use Rattle.strides.proofs.Filling.{length-joined, piece_more, pieces_done}

-- The bytes of an element that stands inside are w.
pub length_element : (w : ℕ) (s : List ℕ) (p : ℕ) → p + w ≤ length s → length (take w (drop p s)) ≡ w
length_element w s p h = simp (length-take, length-drop) (omega arith)

pub keeps : (back : Bool) {w : ℕ} (l : List ℕ) → length l ≡ w → length (turned back l) ≡ w
keeps back l e = length-turned back l ∙ e

-- A row whose elements stand inside, each made anew as w bytes.
module _ (f : List ℕ → List ℕ) (w : ℕ) (keeps : (l : List ℕ) → length l ≡ w → length (f l) ≡ w) (s : List ℕ) (at up down n : ℕ) (inside : Inside at up down n w (length s)) where
  piece : (i : ℕ) → i < n → length (f (take w (drop (place at up down i) s))) ≡ w
  piece i h = let k = inside i h in keeps _ (length_element w s (place at up down i) (omega arith))

  pub length_row : length (row_of f w s at up down n) ≡ w * n
  unfolding row_of
  length_row = length-joined n w _ piece

  -- A turn: the next element is written.
  pub row_more : (i p : ℕ) (d l q : List ℕ) → i < n → p ≡ place at up down i → l ≡ over (row_of f w s at up down i) d → q ≡ f (take w (drop p s))
      → patched (w * i) w l q ≡ over (row_of f w s at up down (i + 1)) d
  unfolding row_of
  row_more i p d l q h e k g =
      piece_more _ w n d piece i (w * i) w l q h k refl refl (g ∙ ap (λ (j : ℕ). f (take w (drop j s))) e)

  -- The end: the row is.
  pub row_done : (i : ℕ) (d l : List ℕ) → i ≤ n → n ≤ i → length d ≡ w * n → l ≡ over (row_of f w s at up down i) d → l ≡ row_of f w s at up down n
  unfolding row_of
  row_done i d l h k e q = pieces_done _ w n d piece i l h k e q

-- ---- A row at any width, by the loop for the width v

pub asked : (w v at up down n len m : ℕ) → w ≡ v → Inside at up down n w len → m ≡ w * n → Inside at up down n v len × (m ≡ v * n)
asked w v at up down n len m e i l = (subst (λ (k : ℕ). Inside at up down n k len) e i, subst (λ (k : ℕ). m ≡ k * n) e l)

-- What holds of each width holds of any.
pub by_width : (P : ℕ → Type 0) → P 1 → P 2 → P 4 → P 8 → {w : ℕ} → Width w → P w
by_width P a b c d (inl e) = subst P (sym e) a
by_width P a b c d (inr (inl e)) = subst P (sym e) b
by_width P a b c d (inr (inr (inl e))) = subst P (sym e) c
by_width P a b c d (inr (inr (inr e))) = subst P (sym e) d

pub width_one : {w : ℕ} → Width w → (w ≡ 8 → ⊥) → (w ≡ 4 → ⊥) → (w ≡ 2 → ⊥) → w ≡ 1
width_one (inl e) a b c = e
width_one (inr (inl e)) a b c = absurd (c e)
width_one (inr (inr (inl e))) a b c = absurd (b e)
width_one (inr (inr (inr e))) a b c = absurd (a e)
