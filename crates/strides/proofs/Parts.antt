-- Rows in two parts, and rows of which the elements stand in a part of the file.
use mathlib.Core.Path.{◌≡◌, refl, sym, ap, ◌∙◌}
use mathlib.Core.List.{List, [], ◌∷◌, ◌++◌, append-nil}
use Prim.Native.Nat.{ℕ, zero, suc, ◌+◌, ◌-◌, ◌*◌, ◌<◌, ◌≤◌}
use native.Mathlib.Nat.{add-zero, zero-mul, mul-add}
use native.Mathlib.Omega.{arith}
use lib.ListN.{length, take, drop}
use lib.Seq.{take-take, drop-drop}
use Rattle.raster.specs.Bytes.{joined}
use Rattle.raster.specs.Strided.{patched, place, Inside, row_of}
use Rattle.raster.proofs.Joined.{joined_same, joined_add}
use Rattle.strides.proofs.Filling.{two_parts}
use Rattle.strides.proofs.RowLaws.{length_row}

-- An element of a group, read from the group's bytes or from the file.
within : (a w k : ℕ) (l : List ℕ) → a + w ≤ k → take w (drop a (take k l)) ≡ take w (drop a l)
within zero w k l h = take-take w k l (omega arith)
within (suc a) w zero l h = absurd (omega arith)
within (suc a) w (suc k) [] h = refl
within (suc a) w (suc k) (x ∷ l) h = within a w k l (omega arith)

-- No place is cut off at 0 up to index a.
place_add : (at up down a i : ℕ) → down * a ≤ at + up * a → place at up down (a + i) ≡ place (place at up down a) up down i
place_add at up down a i h = omega (arith, mul-add up a i, mul-add down a i)

module _ (f : List ℕ → List ℕ) (w : ℕ) where
  -- A row in two parts.
  pub strided_add : (s : List ℕ) (at up down a b p : ℕ) → down * a ≤ at + up * a → p ≡ place at up down a
      → row_of f w s at up down (a + b) ≡ row_of f w s at up down a ++ row_of f w s p up down b
  unfolding row_of
  strided_add s at up down a b p h e =
      joined_add _ a b
      ∙ ap (λ (l : List ℕ). row_of f w s at up down a ++ l)
      (joined_same b _ _
      (λ i k. ap (λ (j : ℕ). f (take w (drop j s))) (place_add at up down a i h ∙ ap (λ (j : ℕ). place j up down i) (sym e))))

  pub row_add : (s : List ℕ) (at a b : ℕ) → row_of f w s at w 0 (a + b) ≡ row_of f w s at w 0 a ++ row_of f w s (at + w * a) w 0 b
  row_add s at a b = strided_add s at w 0 a b (at + w * a) (omega (arith, zero-mul a)) (omega (arith, zero-mul a))

  -- The elements of a group of k bytes are those of the file where it stands.
  pub group_is : (s : List ℕ) (p k at up down c : ℕ) → Inside at up down c w k
      → row_of f w (take k (drop p s)) at up down c ≡ row_of f w s (p + at) up down c
  unfolding row_of
  group_is s p k at up down c inside =
      joined_same c _ _
      (λ i h.
      let x = place at up down i in
      let n = inside i h in
      let e : p + x ≡ place (p + at) up down i = omega arith in
      ap f
      (within x w k (drop p s) (omega arith) ∙ ap (take w) (drop-drop x p s) ∙ ap (λ (j : ℕ). take w (drop j s)) e))

  -- The same where no element may be in the second part.
  pub strided_halves : (s : List ℕ) (at up down a b p : ℕ) → (0 < b → down * a ≤ at + up * a) → p ≡ place at up down a
      → row_of f w s at up down (a + b) ≡ row_of f w s at up down a ++ row_of f w s p up down b
  unfolding row_of joined
  strided_halves s at up down a zero p h e = ap (row_of f w s at up down) (add-zero a) ∙ sym (append-nil (row_of f w s at up down a))
  strided_halves s at up down a (suc b) p h e = strided_add s at up down a (suc b) p (h (omega arith)) e

-- The elements from index a on, of which the first stands at p.
pub rest_inside : (at up down a n p w len : ℕ) → a ≤ n → down * a ≤ at + up * a → p ≡ place at up down a → Inside at up down n w len
    → Inside p up down (n - a) w len
rest_inside at up down a n p w len h k e inside i t =
    let b = inside (a + i) (omega arith) in (
      omega (arith, b.0, mul-add up a i, mul-add down a i),
      omega (arith, b.1, mul-add up a i),
    )

-- A row in two parts of the buffer: the first has a elements, and the second, from p on, those that are left of n.
module _ (f : List ℕ → List ℕ) (w : ℕ) (keeps : (l : List ℕ) → length l ≡ w → length (f l) ≡ w) (s : List ℕ) (at up down a n h p : ℕ)
    (fits : a ≤ n) (before : a < n → down * a ≤ at + up * a) (next : p ≡ place at up down a) (inside : Inside at up down n w (length s))
    (d l : List ℕ) (front : h ≡ w * a) (whole : length d ≡ w * n) (first : l ≡ row_of f w s at up down a) where
  abbrev begun : List ℕ
  begun = patched 0 h d l

  pub parts_whole : (q : List ℕ) → q ≡ row_of f w s p up down (n - a) → patched h (length begun - h) begun q ≡ row_of f w s at up down n
  parts_whole q e =
      let y : a + (n - a) ≡ n = omega arith in
      let z : w * n ≡ w * a + w * (n - a) = ap (λ (k : ℕ). w * k) (sym y) ∙ mul-add w a (n - a) in
      let m : length l ≡ h = ap length first ∙ length_row f w keeps s at up down a (λ i k. inside i (omega arith)) ∙ sym front in
      let r : length q ≡ length d - h =
      ap length e ∙ length_row f w keeps s p up down (n - a) (λ i t. rest_inside at up down a n p w (length s) fits (before (omega arith)) next inside i t) ∙ omega arith in
      two_parts d l h (omega arith) m q r ∙ (λ i. first i ++ e i) ∙ sym (strided_halves f w s at up down a (n - a) p (λ t. before (omega arith)) next)
      ∙ ap (row_of f w s at up down) y
