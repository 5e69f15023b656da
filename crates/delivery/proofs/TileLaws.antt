-- A band that is delivered tile by tile: the rows of its buffer, and what of them is written.
use mathlib.Core.Path.{◌≡◌, refl, sym, ap, subst, ◌∙◌}
use mathlib.Core.List.{List, ◌++◌, append_assoc, append-nil}
use Prim.Native.Nat.{ℕ, ◌+◌, ◌-◌, ◌*◌, ◌≤◌, ◌<◌}
use native.Mathlib.Nat.{add-zero, le_antisymm, mul-add, mul_comm, mul-le-mul_left}
use native.Mathlib.Omega.{arith}
use lib.ListN.{length, take, drop, length-append, length-take, length-drop, drop_of_length-le, take-append-drop}
use lib.Seq.{take-add, take_at, drop_at, drop-drop, take-append-le, drop-append-le}
use Rattle.scan.specs.Buffer.{over}
use Rattle.raster.specs.Bytes.{joined}
use Rattle.raster.specs.Strided.{patched, place, Inside, row_of, plane_of}
use Rattle.conversion.specs.Plane.{IsInside}
use Rattle.conversion.specs.declared.rows.Plane.{Plane}
use Rattle.raster.proofs.Joined.{joined_add, joined_list, joined_same}
use Rattle.strides.proofs.Filling.{length-joined, over_part, piece_more, pieces_done, mul_room}
use Rattle.strides.proofs.RowLaws.{length_row}
use Rattle.delivery.specs.Tiles.{row_at, tiled, tile_row}

-- Of n elements of w bytes, k from index m on.
pub within : (w m k n : ℕ) → m + k ≤ n → w * m + w * k ≤ w * n
within w m k n h = let e = mul-add w m k in let l = mul-le-mul_left w h in omega arith

-- ---- Bytes replaced inside a part of the buffer

patched-front : (o k : ℕ) (x y q : List ℕ) → o + k ≤ length x → patched o k (x ++ y) q ≡ patched o k x q ++ y
patched-front o k x y q h =
    let a : o ≤ length x = omega arith in
    let b : k ≤ length (drop o x) = simp length-drop (omega arith) in
    rw (take-append-le o x y a, drop-append-le o x y a, drop-append-le k (drop o x) y b)
    (sym (append_assoc (take o x) (q ++ drop k (drop o x)) y ∙ ap (λ (l : List ℕ). take o x ++ l) (append_assoc q (drop k (drop o x)) y)))

-- The part has m bytes, from a on.
patched_part : (a m o k : ℕ) (l q : List ℕ) → o + k ≤ m → a + m ≤ length l
    → patched (a + o) k l q ≡ patched a m l (patched o k (take m (drop a l)) q)
patched_part a m o k l q h room =
    let r = drop a l in
    let n : length (take m r) ≡ m = simp (length-take, length-drop) (omega arith) in
    (λ j. take-add a o l j ++ (q ++ drop k (sym (drop-drop o a l) j)))
    ∙ append_assoc (take a l) (take o r) (q ++ drop k (drop o r))
    ∙ ap (λ (x : List ℕ). take a l ++ patched o k x q) (sym (take-append-drop m r))
    ∙ ap (λ (x : List ℕ). take a l ++ x) (patched-front o k (take m r) (drop m r) q (omega arith))

-- ---- Rows of a buffer

-- A row of those joined.
pub row_is : (r n : ℕ) (f : ℕ → List ℕ) → ((i : ℕ) → i < n → length (f i) ≡ r) → (i : ℕ) → i < n → row_at r i (joined n f) ≡ f i
unfolding joined
row_is r n f wide i h =
    let m = n - i - 1 in
    let e : n ≡ i + (1 + m) = omega arith in
    let rest = joined m (λ (j : ℕ). f (i + (1 + j))) in
    let z : i + 0 ≡ i = add-zero i in
    ap (λ (k : ℕ). row_at r i (joined k f)) e
    ∙ ap (row_at r i) (joined_add f i (1 + m) ∙ ap (λ (l : List ℕ). joined i f ++ l) (joined_add (λ (j : ℕ). f (i + j)) 1 m))
    ∙ ap (take r) (drop_at (joined i f) (f (i + 0) ++ rest) (r * i) (length-joined i r f (λ j k. wide j (omega arith))))
    ∙ take_at (f (i + 0)) rest r (ap (λ (k : ℕ). length (f k)) z ∙ wide i h) ∙ ap f z

-- A buffer is its rows joined.
rows_joined : (r n : ℕ) (l : List ℕ) → length l ≡ r * n → l ≡ joined n (λ (i : ℕ). row_at r i l)
rows_joined r n l e =
    sym
    (joined_same n _ _ (λ i h. ap (λ (k : ℕ). take r (drop k l)) (mul_comm r i))
    ∙ joined_list r n l (e ∙ mul_comm r n))

length-row_at : (r n i : ℕ) (l : List ℕ) → length l ≡ r * n → i < n → length (row_at r i l) ≡ r
length-row_at r n i l e h = let k = mul_room r i n h in simp (length-take, length-drop) (omega arith)

-- ---- One tile: in the buffer d, of n rows of r bytes, k bytes of each row from o on

module _ (r n o k : ℕ) (d : List ℕ) (f : ℕ → List ℕ) (fits : o + k ≤ r) (whole : length d ≡ r * n) (wide : (i : ℕ) → i < n → length (f i) ≡ k) where
  abbrev tiled_row : ℕ → List ℕ
  tiled_row i = patched o k (row_at r i d) (f i)

  length-tiled : (i : ℕ) → i < n → length (tiled_row i) ≡ r
  length-tiled i h =
      let e = length-row_at r n i d whole h in
      let g = wide i h in
      simp (length-append, length-take o (row_at r i d), length-drop k (drop o (row_at r i d)), length-drop o (row_at r i d)) (omega arith)

  -- A turn: the next row has it.
  pub tile_more : (i p m : ℕ) (l q : List ℕ) → i < n → l ≡ over (tiled r i o k d f) d → p ≡ r * i + o → m ≡ k → q ≡ f i
      → patched p m l q ≡ over (tiled r (i + 1) o k d f) d
  unfolding tiled
  tile_more i p m l q h e a b g =
      let done = joined i tiled_row in
      let s : length done ≡ r * i = length-joined i r tiled_row (λ j t. length-tiled j (omega arith)) in
      let z : drop (r * i) l ≡ drop (r * i) d = ap (drop (r * i)) e ∙ drop_at done (drop (length done) d) (r * i) s ∙ ap (λ (j : ℕ). drop j d) s in
      let y = mul_room r i n h in
      let x : length l ≡ length d = ap length e ∙ simp (length-append, length-drop) (omega arith) in
      (λ j. patched (a j) (b j) l (g j))
      ∙ patched_part (r * i) r o k l (f i) fits (omega arith)
      ∙ piece_more tiled_row r n d length-tiled i (r * i) r l _ h e refl refl (ap (λ (v : List ℕ). patched o k (take r v) (f i)) z)

  -- The end: all rows have it.
  pub tile_done : (i : ℕ) (l : List ℕ) → i ≤ n → n ≤ i → l ≡ over (tiled r i o k d f) d → l ≡ tiled r n o k d f
  unfolding tiled
  tile_done i l h t e = pieces_done tiled_row r n d length-tiled i l h t whole e

pub tiled-same : (r n o k : ℕ) (l : List ℕ) (f g : ℕ → List ℕ) → ((i : ℕ) → i < n → f i ≡ g i) → tiled r n o k l f ≡ tiled r n o k l g
unfolding tiled
tiled-same r n o k l f g e = joined_same n _ _ (λ i h. ap (patched o k (row_at r i l)) (e i h))

-- ---- A row in two parts

module _ (at up down n w len : ℕ) (inside : Inside at up down n w len) (a b : ℕ) (fits : a + b ≤ n) where
  -- The second part starts where its first element stands.
  pub inside_from : Inside (place at up down a) up down b w len
  inside_from i h = let k = inside (a + i) (omega arith) in
      (omega (arith, k.0, mul-add up a i, mul-add down a i), omega (arith, k.1, mul-add up a i))

  pub place_from : (i : ℕ) → i < b → place at up down (a + i) ≡ place (place at up down a) up down i
  place_from i h = let k = inside a (omega arith) in omega (arith, k.0, mul-add up a i, mul-add down a i)

  row_parts : (f : List ℕ → List ℕ) (s : List ℕ) → row_of f w s at up down (a + b) ≡ row_of f w s at up down a ++ row_of f w s (place at up down a) up down b
  unfolding row_of
  row_parts f s =
      joined_add _ a b
      ∙ ap (λ (l : List ℕ). row_of f w s at up down a ++ l) (joined_same b _ _ (λ i h. ap (λ (p : ℕ). f (take w (drop p s))) (place_from i h)))

-- ---- The tiles of a band: the buffer d is filled from the left

-- Row i with its first m elements delivered.
abbrev pub begun : (List ℕ → List ℕ) → ℕ → List ℕ → Plane → List ℕ → ℕ → ℕ → List ℕ
begun f w s plane d m i = over (row_of f w s (place plane.first.at plane.up plane.down i) plane.first.up plane.first.down m) (row_at (w * plane.first.count) i d)

module _ (f : List ℕ → List ℕ) (w : ℕ) (keeps : (l : List ℕ) → length l ≡ w → length (f l) ≡ w) (s : List ℕ) (plane : Plane)
    (inside : IsInside plane w (length s)) where
  -- The elements of a tile have their length.
  length_tile : (m k : ℕ) → m + k ≤ plane.first.count → (i : ℕ) → i < plane.count → length (tile_row f w s plane m k i) ≡ w * k
  length_tile m k h i j =
      length_row f w keeps s _ plane.first.up plane.first.down k
      (inside_from (place plane.first.at plane.up plane.down i) plane.first.up plane.first.down plane.first.count w (length s) (inside i j).1 m k h)

  module _ (d : List ℕ) (whole : length d ≡ w * plane.first.count * plane.count) where
    abbrev rows_begun : ℕ → ℕ → List ℕ
    rows_begun m i = begun f w s plane d m i

    length_front : (m : ℕ) → m ≤ plane.first.count → (i : ℕ) → i < plane.count
        → length (row_of f w s (place plane.first.at plane.up plane.down i) plane.first.up plane.first.down m) ≡ w * m
    length_front m h i j = length_row f w keeps s (place plane.first.at plane.up plane.down i) plane.first.up plane.first.down m (λ k l. (inside i j).1 k (omega arith))

    length_begun : (m : ℕ) → m ≤ plane.first.count → (i : ℕ) → i < plane.count → length (rows_begun m i) ≡ w * plane.first.count
    length_begun m h i j =
        let e = length-row_at (w * plane.first.count) plane.count i d whole j in
        let g = length_front m h i j in
        let k = mul-le-mul_left w h in
        simp (length-append, length-drop (length (row_of f w s (place plane.first.at plane.up plane.down i) plane.first.up plane.first.down m)) (row_at (w * plane.first.count) i d)) (omega arith)

    pub tiles_none : d ≡ joined plane.count (begun f w s plane d 0)
    unfolding row_of joined
    tiles_none = rows_joined (w * plane.first.count) plane.count d whole

    -- A turn: the next tile is delivered.
    pub tiles_more : (m k : ℕ) (l q : List ℕ) → m + k ≤ plane.first.count → l ≡ joined plane.count (begun f w s plane d m)
        → q ≡ tiled (w * plane.first.count) plane.count (w * m) (w * k) l (tile_row f w s plane m k) → q ≡ joined plane.count (begun f w s plane d (m + k))
    unfolding tiled
    tiles_more m k l q h e g =
        g
        ∙ joined_same plane.count _ _
        (λ i j.
        let p = place plane.first.at plane.up plane.down i in
        over_part (row_of f w s p plane.first.up plane.first.down m) (tile_row f w s plane m k i) (row_at (w * plane.first.count) i d) (row_at (w * plane.first.count) i l) (w * m) (w * k)
        (ap (row_at (w * plane.first.count) i) e ∙ row_is (w * plane.first.count) plane.count (rows_begun m) (length_begun m (omega arith)) i j)
        (length_front m (omega arith) i j) (length_tile m k h i j)
        ∙ ap (λ (x : List ℕ). over x (row_at (w * plane.first.count) i d))
        (sym (row_parts p plane.first.up plane.first.down plane.first.count w (length s) (inside i j).1 m k h f s)))

    -- The end: all are.
    pub tiles_done : (m : ℕ) (l : List ℕ) → m ≤ plane.first.count → plane.first.count ≤ m → l ≡ joined plane.count (begun f w s plane d m)
        → l ≡ plane_of f w s plane.first.at plane.first.up plane.first.down plane.first.count plane.up plane.down plane.count
    unfolding plane_of
    tiles_done m l h k e =
        subst (λ (j : ℕ). l ≡ joined plane.count (begun f w s plane d j)) (le_antisymm h k) e
        ∙ joined_same plane.count _ _
        (λ i j.
        let r = row_of f w s (place plane.first.at plane.up plane.down i) plane.first.up plane.first.down plane.first.count in
        let b = row_at (w * plane.first.count) i d in
        ap (λ (x : List ℕ). r ++ x)
        (drop_of_length-le b {i = length r} (omega (arith, length_front plane.first.count (omega arith) i j, length-row_at (w * plane.first.count) plane.count i d whole j))) ∙ append-nil r)
