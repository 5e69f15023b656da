-- A buffer that is filled from its front, piece by piece or part by part.
use mathlib.Core.Path.{◌≡◌, refl, sym, ap, subst, ◌∙◌}
use mathlib.Core.List.{List, ◌++◌, append_assoc, append-nil}
use Prim.Native.Nat.{ℕ, zero, suc, ◌+◌, ◌-◌, ◌*◌, ◌≤◌, ◌<◌}
use native.Mathlib.Nat.{le_antisymm, mul-zero, mul-suc, mul-le-mul_left}
use native.Mathlib.Numerals.{add-one}
use native.Mathlib.Omega.{arith}
use lib.ListN.{length, drop, length-append, length-drop, drop_of_length-le}
use lib.Seq.{drop-drop, take_at, drop_at}
use Rattle.scan.specs.Buffer.{over}
use Rattle.raster.specs.Bytes.{joined}
use Rattle.raster.specs.Strided.{patched}

joined_next : (n : ℕ) (f : ℕ → List ℕ) → joined (n + 1) f ≡ joined n f ++ f n
unfolding joined
joined_next n f = rw add-one refl

pub length-joined : (n m : ℕ) (f : ℕ → List ℕ) → ((i : ℕ) → i < n → length (f i) ≡ m) → length (joined n f) ≡ m * n
unfolding joined
length-joined zero m f h = sym (mul-zero m)
length-joined (suc n) m f h =
    length-append (joined n f) (f n) ∙ (λ j. length-joined n m f (λ i k. h i (omega arith)) j + h n (omega arith) j) ∙ sym (mul-suc m n)

-- A part of the buffer is replaced where p ends.
pub over_part : (p q d l : List ℕ) (o k : ℕ) → l ≡ over p d → length p ≡ o → length q ≡ k → patched o k l q ≡ over (p ++ q) d
over_part p q d l o k e n m =
    ap (λ (x : List ℕ). patched o k x q) e
    ∙ (λ j. take_at p (drop (length p) d) o n j ++ (q ++ drop k (drop_at p (drop (length p) d) o n j)))
    ∙ ap (λ (x : List ℕ). p ++ (q ++ x))
    (drop-drop k (length p) d ∙ ap (λ (j : ℕ). drop (length p + j) d) (sym m) ∙ ap (λ (j : ℕ). drop j d) (sym (length-append p q)))
    ∙ sym (append_assoc p q (drop (length (p ++ q)) d))

-- Pieces of m bytes each, of which the first i are written to the buffer d.
module _ (f : ℕ → List ℕ) (m : ℕ) (d : List ℕ) where
  -- A turn: the next piece is written.
  pub joined_more : (i : ℕ) (l q r : List ℕ) → (length (joined i f) ≡ m * i) × (l ≡ over (joined i f) d) → length q ≡ m → q ≡ f i
      → r ≡ patched (m * i) m l q → (length (joined (i + 1) f) ≡ m * (i + 1)) × (r ≡ over (joined (i + 1) f) d)
  joined_more i l q r (w, e) n g h =
      let t : joined (i + 1) f ≡ joined i f ++ q = joined_next i f ∙ ap (λ (x : List ℕ). joined i f ++ x) (sym g) in (
        ap length t ∙ length-append (joined i f) q ∙ (λ j. w j + n j) ∙ sym (mul-suc m i) ∙ ap (λ (k : ℕ). m * k) (sym (add-one i)),
        h ∙ over_part (joined i f) q d l (m * i) m e w n ∙ ap (λ (x : List ℕ). over x d) (sym t),
      )

  -- The end: all n are.
  pub joined_all : (i n : ℕ) (l : List ℕ) → i ≤ n → n ≤ i → length d ≡ m * n → (length (joined i f) ≡ m * i) × (l ≡ over (joined i f) d)
      → l ≡ joined n f
  joined_all i n l h k b (w, e) =
      let j = le_antisymm h k in
      let r : length d ≤ length (joined i f) = omega (arith, b, w, ap (λ (x : ℕ). m * x) j) in
      e ∙ ap (λ (x : List ℕ). joined i f ++ x) (drop_of_length-le d {i = length (joined i f)} r)
      ∙ append-nil (joined i f) ∙ ap (λ (x : ℕ). joined x f) j

-- A buffer in two parts, lent one after the other: h bytes from its front, and what is left.
module _ (d p : List ℕ) (h : ℕ) (room : h ≤ length d) (first : length p ≡ h) where
  -- The buffer with the first part written.
  abbrev begun : List ℕ
  begun = patched 0 h d p

  begun_is : begun ≡ over p d
  begun_is = ap (λ (i : ℕ). p ++ drop i d) (sym first)

  begun_length : length begun ≡ length d
  begun_length = ap length begun_is ∙ simp (length-append, length-drop) (omega arith)

  pub two_parts : (q : List ℕ) → length q ≡ length d - h → patched h (length begun - h) begun q ≡ p ++ q
  two_parts q e =
      let l = begun_length in
      let w : length d ≤ length (p ++ q) = simp length-append (omega arith) in
      over_part p q d begun h (length begun - h) begun_is first (omega arith)
      ∙ ap (λ (x : List ℕ). (p ++ q) ++ x) (drop_of_length-le d {i = length (p ++ q)} w) ∙ append-nil (p ++ q)

-- The buffer d, of which the first i pieces of n, of m bytes each, are written.
module _ (f : ℕ → List ℕ) (m n : ℕ) (d : List ℕ) (wide : (j : ℕ) → j < n → length (f j) ≡ m) where
  -- A turn: the next piece is written.
  pub piece_more : (i o k : ℕ) (l q : List ℕ) → i < n → l ≡ over (joined i f) d → o ≡ m * i → k ≡ m → q ≡ f i
      → patched o k l q ≡ over (joined (i + 1) f) d
  piece_more i o k l q h e a b g =
      over_part (joined i f) q d l o k e (length-joined i m f (λ j t. wide j (omega arith)) ∙ sym a) (ap length g ∙ wide i h ∙ sym b)
      ∙ ap (λ (x : List ℕ). over (joined i f ++ x) d) g ∙ ap (λ (x : List ℕ). over x d) (sym (joined_next i f))

  -- The end: all are.
  pub pieces_over : (i : ℕ) (l : List ℕ) → i ≤ n → n ≤ i → l ≡ over (joined i f) d → l ≡ over (joined n f) d
  pieces_over i l h k e = subst (λ (j : ℕ). l ≡ over (joined j f) d) (le_antisymm h k) e

  pub pieces_done : (i : ℕ) (l : List ℕ) → i ≤ n → n ≤ i → length d ≡ m * n → l ≡ over (joined i f) d → l ≡ joined n f
  pieces_done i l h k w e =
      pieces_over i l h k e
      ∙ ap (λ (x : List ℕ). joined n f ++ x) (drop_of_length-le d {i = length (joined n f)} (omega (arith, length-joined n m f wide))) ∙ append-nil (joined n f)

-- The next piece has room.
pub mul_room : (m i n : ℕ) → i < n → m * i + m ≤ m * n
mul_room m i n h = subst (λ (k : ℕ). k ≤ m * n) (mul-suc m i) (mul-le-mul_left m h)

pub mul_next : (m i o : ℕ) → o ≡ m * i → o + m ≡ m * (i + 1)
mul_next m i o e = ap (λ (k : ℕ). k + m) e ∙ sym (mul-suc m i) ∙ ap (λ (k : ℕ). m * k) (sym (add-one i))
