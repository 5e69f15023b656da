-- Rows of elements with an offset added: their byte orders in passes of their own, and block by block.
use mathlib.Core.Path.{◌≡◌, sym, ap, subst, ◌∙◌}
use mathlib.Core.Logic.{inl, inr, ⊎_elim}
use mathlib.Core.Bool.{Bool}
use mathlib.Core.List.{List, [], ◌++◌, append_assoc, append-nil}
use Prim.Native.Nat.{ℕ, zero, suc, ◌+◌, ◌-◌, ◌*◌, ◌/◌, ◌≤◌, ◌<◌}
use native.Mathlib.Nat.{eq-or-lt_of_le, zero-mul, mul-add, mul-div-le, mul-le-mul_left}
use native.Mathlib.Omega.{arith}
use lib.Dec.{eqb}
use lib.ListN.{length, take, drop, length-take, length-drop}
use lib.Seq.{take_at, drop_at}
use Rattle.scan.specs.Buffer.{over}
use Rattle.raster.specs.Bytes.{joined, number_of, bytes_of}
use Rattle.raster.specs.Strided.{turned, patched, place, Inside, Width, row_of}
use Rattle.raster.proofs.RoundTrip.{number-turned, bytes_turned}
use Rattle.raster.proofs.Joined.{joined_same}
use Rattle.strides.proofs.Filling.{length-joined, over_part, mul_room}
use Rattle.strides.proofs.RowLaws.{length_element, length_row}
use Rattle.strides.proofs.Parts.{strided_add, rest_inside}
use Rattle.shift.specs.Shifting.{Short, shift_by, shifted_bytes}
use Rattle.shift.specs.declared.shift.Shift.{Shift}

-- ---- The widths

pub short_width : {w : ℕ} → Short w → Width w
short_width (inl e) = inl e
short_width (inr (inl e)) = inr (inl e)
short_width (inr (inr e)) = inr (inr (inl e))

pub short_some : {w : ℕ} → Short w → 0 < w
short_some (inl e) = omega arith
short_some (inr (inl e)) = omega arith
short_some (inr (inr e)) = omega arith

pub short_one : {w : ℕ} → Short w → (w ≡ 4 → ⊥) → (w ≡ 2 → ⊥) → w ≡ 1
short_one (inl e) a b = e
short_one (inr (inl e)) a b = absurd (b e)
short_one (inr (inr e)) a b = absurd (a e)

-- 1,024 bytes hold some elements, and as many as fit.
pub block_some : {w : ℕ} → Short w → 0 < 1024 / w
block_some (inl e) = subst (λ (w : ℕ). 0 < 1024 / w) (sym e) (omega arith)
block_some (inr (inl e)) = subst (λ (w : ℕ). 0 < 1024 / w) (sym e) (omega arith)
block_some (inr (inr e)) = subst (λ (w : ℕ). 0 < 1024 / w) (sym e) (omega arith)

pub block_holds : (w n : ℕ) → n ≤ 1024 / w → w * n ≤ 1024
block_holds w n h = let a = mul-le-mul_left w h in let b = mul-div-le 1024 w in omega arith

-- ---- An element: its bytes are turned before the low byte is read first, and after it is written first

pub stored : (w : ℕ) (s : Shift) (order asked : ℕ) (l : List ℕ) → shifted_bytes w s order asked l ≡ shifted_bytes w s 2 asked (turned (eqb order 1) l)
unfolding shifted_bytes
stored w s order asked l =
    let t = turned (eqb order 1) l in ap (λ (n : ℕ). bytes_of asked w (shift_by w s n)) (number-turned order l ∙ sym (number-turned 2 t))

pub written : (w : ℕ) (s : Shift) (order asked : ℕ) (l : List ℕ) → shifted_bytes w s order asked l ≡ turned (eqb asked 1) (shifted_bytes w s order 2 l)
unfolding shifted_bytes
written w s order asked l =
    let n = shift_by w s (number_of order l) in bytes_turned asked w n ∙ ap (turned (eqb asked 1)) (sym (bytes_turned 2 w n))

-- ---- Parts of a buffer

pub covers : (w i k n : ℕ) → i + k ≤ n → w * i + w * k ≤ w * n
covers w i k n h = let m = mul-le-mul_left w h in omega (arith, mul-add w i k)

pub part_length : (o m : ℕ) (l : List ℕ) → o + m ≤ length l → length (take (o + m - o) (drop o l)) ≡ m
part_length o m l h = simp (length-take, length-drop) (omega arith)

-- Of an array of k bytes, the first h.
pub front_length : (k h : ℕ) (l : List ℕ) → length l ≡ k → h ≤ k → length (take (h - 0) (drop 0 l)) ≡ h
front_length k h l e b = simp length-take (omega arith)

-- ---- Rows

pub inside_run : (w n len : ℕ) → 0 < w → w * n ≤ len → Inside 0 w 0 n w len
inside_run w n len some h i k = (omega (arith, zero-mul i), omega (arith, mul_room w i n k))

-- A row whose elements are made anew in the same way.
pub row_same : (f g : List ℕ → List ℕ) (w : ℕ) (s : List ℕ) (at up down n : ℕ) → ((l : List ℕ) → f l ≡ g l) → row_of f w s at up down n ≡ row_of g w s at up down n
row_same f g w s at up down n h = λ j. row_of (λ (l : List ℕ). h l j) w s at up down n

-- Each piece stands at its own place, whatever follows them all.
piece_at : (w n : ℕ) (f : ℕ → List ℕ) → ((i : ℕ) → i < n → length (f i) ≡ w) → (i : ℕ) (tail : List ℕ) → i < n
    → take w (drop (w * i) (joined n f ++ tail)) ≡ f i
unfolding joined
piece_at w zero f wide i tail h = absurd (omega arith)
piece_at w (suc n) f wide i tail h =
    rw (append_assoc (joined n f) (f n) tail)
    (⊎_elim
    (λ e. let same : i ≡ n = omega arith in
    rw (same, drop_at (joined n f) (f n ++ tail) (w * n) (length-joined n w f (λ j k. wide j (omega arith)))) (take_at (f n) tail w (wide n (omega arith))))
    (λ l. piece_at w n f (λ j k. wide j (omega arith)) i (f n ++ tail) (omega arith)) (eq-or-lt_of_le h))

-- A row whose elements are made anew twice, by way of h bytes of an array.
module _ (f g : List ℕ → List ℕ) (w : ℕ) (keeps : (l : List ℕ) → length l ≡ w → length (g l) ≡ w) (s : List ℕ) (at up down n : ℕ)
    (inside : Inside at up down n w (length s)) where
  row_of_row : row_of f w (row_of g w s at up down n) 0 w 0 n ≡ row_of (λ (l : List ℕ). f (g l)) w s at up down n
  unfolding row_of
  row_of_row =
      let p : ℕ → List ℕ = λ i. g (take w (drop (place at up down i) s)) in
      joined_same n _ _
      (λ i h.
      let x : place 0 w 0 i ≡ w * i = omega (arith, zero-mul i) in
      ap f
      ((λ j. take w (drop (x j) (sym (append-nil (joined n p)) j)))
      ∙ piece_at w n p (λ j k. let b = inside j k in keeps _ (length_element w s (place at up down j) (omega (arith, b.1)))) i [] h))

  pub by_way : (h : ℕ) (d q r : List ℕ) → h ≡ w * n → q ≡ row_of g w s at up down n → r ≡ row_of f w (take h (q ++ drop h d)) 0 w 0 n
      → r ≡ row_of (λ (l : List ℕ). f (g l)) w s at up down n
  by_way h d q r e a b =
      let m : length q ≡ h = ap length a ∙ length_row g w keeps s at up down n inside ∙ sym e in
      b ∙ ap (λ (l : List ℕ). row_of f w l 0 w 0 n) (take_at q (drop h d) h m ∙ a) ∙ row_of_row

-- The bytes turned after the low byte is written first.
pub turned-after : (w : ℕ) (s : Shift) (order asked : ℕ) (back : Bool) (src : List ℕ) (at up down n : ℕ) → eqb asked 1 ≡ back
    → row_of (λ (l : List ℕ). turned back (shifted_bytes w s order 2 l)) w src at up down n ≡ row_of (shifted_bytes w s order asked) w src at up down n
turned-after w s order asked back src at up down n e =
    row_same _ _ w src at up down n (λ l. sym (written w s order asked l ∙ ap (λ (b : Bool). turned b (shifted_bytes w s order 2 l)) e))

-- A row that is written block by block.
module _ (f : List ℕ → List ℕ) (w : ℕ) (keeps : (l : List ℕ) → length l ≡ w → length (f l) ≡ w) (s : List ℕ) (at up down n : ℕ)
    (inside : Inside at up down n w (length s)) (i k p : ℕ) (some : 0 < k) (fits : i + k ≤ n) (next : p ≡ place at up down i) where
  -- The next k elements stand inside.
  pub block_inside : Inside p up down k w (length s)
  block_inside j t = rest_inside at up down i n p w (length s) (omega arith) (inside i (omega arith)).0 next inside j (omega arith)

  -- A turn: they are written.
  pub block_more : (o m : ℕ) (d l q : List ℕ) → o ≡ w * i → m ≡ w * k → l ≡ over (row_of f w s at up down i) d → q ≡ row_of f w s p up down k
      → patched o m l q ≡ over (row_of f w s at up down (i + k)) d
  block_more o m d l q a b g r =
      over_part (row_of f w s at up down i) q d l o m g
      (length_row f w keeps s at up down i (λ j t. inside j (omega arith)) ∙ sym a)
      (ap length r ∙ length_row f w keeps s p up down k block_inside ∙ sym b)
      ∙ ap (λ (t : List ℕ). over t d)
      (ap (λ (t : List ℕ). row_of f w s at up down i ++ t) r
      ∙ sym (strided_add f w s at up down i k p (inside i (omega arith)).0 next))
