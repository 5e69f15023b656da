-- The copy of a tile, column by column: its columns stand inside the file, and the rows of the tile are read from it.
use mathlib.Core.Path.{◌≡◌, sym, ap, subst, ◌∙◌}
use mathlib.Core.Logic.{⊎_elim}
use mathlib.Core.Bool.{false}
use mathlib.Core.List.{List, ◌++◌}
use Prim.Native.Nat.{ℕ, ◌+◌, ◌*◌, ◌≤◌, ◌<◌}
use native.Mathlib.Nat.{mul-add, mul-zero, zero-mul, mul-le-mul_left}
use native.Mathlib.Omega.{arith}
use lib.ListN.{length, take, drop, length-take, length-drop, take-append-drop}
use lib.Seq.{take_at, drop-drop, take-append-le, drop-append-le}
use Rattle.raster.specs.Strided.{turned, place, Inside, Inside2, row_of, plane_of}
use Rattle.conversion.specs.Plane.{IsInside}
use Rattle.conversion.specs.declared.rows.Plane.{Plane}
use Rattle.raster.proofs.Joined.{joined_same}
use Rattle.strides.proofs.Filling.{length-joined, mul_room}
use Rattle.strides.proofs.RowLaws.{keeps, length_element, length_row}
use Rattle.delivery.specs.Tiles.{row_at, tile_row, OneWay}
use Rattle.delivery.proofs.TileLaws.{row_is}

part_front : (a n m : ℕ) (l : List ℕ) → a + n ≤ m → m ≤ length l → take n (drop a (take m l)) ≡ take n (drop a l)
part_front a n m l h room =
    let x = take m l in
    let e : length x ≡ m = simp length-take (omega arith) in
    let p : a ≤ length x = omega arith in
    let q : n ≤ length (drop a x) = simp length-drop (omega arith) in
    sym
    (ap (λ (v : List ℕ). take n (drop a v)) (sym (take-append-drop m l)) ∙ ap (take n) (drop-append-le a x (drop m l) p)
    ∙ take-append-le n (drop a x) (drop m l) q)

-- What was written at the front of an array.
pub front_is : (k : ℕ) (l q : List ℕ) → length q ≡ k → take k (q ++ drop k l) ≡ q
front_is k l q e = take_at q (drop k l) k e

-- The bytes of a tile fit in the copy.
pub size_fits : (a b : ℕ) → a ≤ 256 → b ≤ 64 → a * b ≤ 16384
size_fits a b h l = let m = mul-le-mul_left a l in omega arith

-- A row of the tile is inside the copy.
pub copy_inside : (w h k i : ℕ) → i < h → Inside (w * i) (w * h) 0 k w (w * h * k)
copy_inside w h k i b j l = (omega (arith, zero-mul j), omega (arith, mul_room w i h b, mul_room (w * h) j k l))

-- Row i of a tile of n rows, in its copy.
abbrev pub part : List ℕ → ℕ → ℕ → ℕ → ℕ → List ℕ
part copy w k n i = row_of (turned false) w copy (w * i) (w * n) 0 k

pub part_inside : (w n k len : ℕ) → len ≡ w * n * k → (i : ℕ) → i < n → Inside (w * i) (w * n) 0 k w len
part_inside w n k len e i l = subst (λ (m : ℕ). Inside (w * i) (w * n) 0 k w m) (sym e) (copy_inside w n k i l)

pub part_length : (copy : List ℕ) (w k n : ℕ) → length copy ≡ w * n * k → (i : ℕ) → i < n → length (part copy w k n i) ≡ w * k
part_length copy w k n e i h = length_row (turned false) w (keeps false) copy (w * i) (w * n) 0 k (part_inside w n k (length copy) e i h)

module _ (f : List ℕ → List ℕ) (w : ℕ) (keeps : (l : List ℕ) → length l ≡ w → length (f l) ≡ w) (s : List ℕ) (plane : Plane)
    (inside : IsInside plane w (length s)) (way : OneWay plane.up plane.down) (some : 0 < plane.count) where
  pub first_row : Inside plane.first.at plane.first.up plane.first.down plane.first.count w (length s)
  first_row =
      let e : place plane.first.at plane.up plane.down 0 ≡ plane.first.at = omega (arith, mul-zero plane.up, mul-zero plane.down) in
      subst (λ (p : ℕ). Inside p plane.first.up plane.first.down plane.first.count w (length s)) e (inside 0 some).1

  module _ (m k : ℕ) (fits : m + k ≤ plane.first.count) where
    -- Where the tile starts.
    abbrev corner : ℕ
    corner = place plane.first.at plane.first.up plane.first.down m

    column : (j : ℕ) → j < k → (i : ℕ) → i < plane.count → place corner plane.first.up plane.first.down j + plane.up * i + w ≤ length s
    column j l i h =
        let e = mul-add plane.first.up m j in
        let a = first_row (m + j) (omega arith) in
        let b = (inside i h).1 (m + j) (omega arith) in
        ⊎_elim
        (λ z. omega (arith, ap (λ (x : ℕ). x * i) z, zero-mul i, a.1))
        (λ z. omega (arith, ap (λ (x : ℕ). x * i) z, zero-mul i, b.1)) way

    -- The columns of the tile stand inside.
    pub columns_inside : Inside2 corner plane.up plane.down plane.count plane.first.up plane.first.down k w (length s)
    columns_inside j l =
        let e = mul-add plane.first.up m j in
        let d = mul-add plane.first.down m j in
        let a = first_row (m + j) (omega arith) in
        let b = first_row m (omega arith) in (
          (omega arith, omega arith),
          λ i h.
              let c = inside i h in
              let g = c.1 (m + j) (omega arith) in
              (omega (arith, a.0, b.0, c.0.0, g.0), column j l i h),
        )

    places : (i j : ℕ) → i < plane.count → j < k
        → place (place corner plane.first.up plane.first.down j) plane.up plane.down i ≡ place (place (place plane.first.at plane.up plane.down i) plane.first.up plane.first.down m) plane.first.up plane.first.down j
    places i j h l =
        let e = mul-add plane.first.up m j in
        let d = mul-add plane.first.down m j in
        let a = first_row (m + j) (omega arith) in
        let b = first_row m (omega arith) in
        let c = inside i h in
        let g = c.1 (m + j) (omega arith) in
        let q = c.1 m (omega arith) in
        omega (arith, a.0, b.0, c.0.0, g.0, q.0)

    abbrev column_of : ℕ → List ℕ
    column_of j = row_of f w s (place corner plane.first.up plane.first.down j) plane.up plane.down plane.count

    wide : (j : ℕ) → j < k → length (column_of j) ≡ w * plane.count
    wide j l = length_row f w keeps s (place corner plane.first.up plane.first.down j) plane.up plane.down plane.count (columns_inside j l).1

    pub columns_length : length (plane_of f w s corner plane.up plane.down plane.count plane.first.up plane.first.down k) ≡ w * plane.count * k
    unfolding plane_of
    columns_length = length-joined k (w * plane.count) _ wide

    module _ (q : List ℕ) (copied : q ≡ plane_of f w s corner plane.up plane.down plane.count plane.first.up plane.first.down k) where
      column_is : (j : ℕ) → j < k → row_at (w * plane.count) j q ≡ column_of j
      unfolding plane_of
      column_is j l = ap (row_at (w * plane.count) j) copied ∙ row_is (w * plane.count) k column_of wide j l

      element_is : (i j : ℕ) → i < plane.count → (l : j < k)
          → take w (drop (w * i) (column_of j)) ≡ f (take w (drop (place (place corner plane.first.up plane.first.down j) plane.up plane.down i) s))
      unfolding row_of
      element_is i j h l =
          row_is w plane.count (λ (i : ℕ). f (take w (drop (place (place corner plane.first.up plane.first.down j) plane.up plane.down i) s)))
          (λ i h. let c = (columns_inside j l).1 i h in keeps _ (length_element w s (place (place corner plane.first.up plane.first.down j) plane.up plane.down i) (omega arith))) i h

      -- A row of the tile, read from the copy.
      pub tile_rows : (i : ℕ) → i < plane.count → row_of (turned false) w q (w * i) (w * plane.count) 0 k ≡ tile_row f w s plane m k i
      unfolding row_of
      tile_rows i h =
          joined_same k _ _
          (λ j l.
          let o : place (w * i) (w * plane.count) 0 j ≡ w * plane.count * j + w * i = omega (arith, zero-mul j) in
          let room = mul_room (w * plane.count) j k l in
          let size : w * plane.count ≤ length (drop (w * plane.count * j) q) = simp length-drop (omega (arith, ap length copied ∙ columns_length)) in
          ap (λ (p : ℕ). take w (drop p q)) o ∙ ap (take w) (sym (drop-drop (w * i) (w * plane.count * j) q))
          ∙ sym (part_front (w * i) w (w * plane.count) (drop (w * plane.count * j) q) (mul_room w i plane.count h) size)
          ∙ ap (λ (x : List ℕ). take w (drop (w * i) x)) (column_is j l) ∙ element_is i j h l
          ∙ ap (λ (p : ℕ). f (take w (drop p s))) (places i j h l))
