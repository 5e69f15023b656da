-- Elements that stand one after another backwards, a group of c elements of w bytes at a time.
use mathlib.Core.Path.{◌≡◌, refl, sym, ap, subst, ◌∙◌}
use mathlib.Core.Bool.{true, false}
use mathlib.Core.List.{List, [], ◌∷◌, ◌++◌, reverse-cons}
use Prim.Native.Nat.{ℕ, zero, suc, ◌+◌, ◌-◌, ◌*◌, ◌/◌, ◌≤◌, ◌<◌}
use native.Mathlib.Nat.{zero-mul, one-mul, mul-zero, mul-suc, mul-add, mul_assoc}
use native.Mathlib.Omega.{arith}
use lib.ListN.{length, take, drop, length-take, length-drop, length-append}
use Rattle.raster.specs.Bytes.{joined}
use Rattle.raster.specs.Strided.{patched, turned, place, Inside, Width, row_of}
use Rattle.raster.proofs.Joined.{joined_same}
use Rattle.strides.proofs.Filling.{mul_room}
use Rattle.strides.specs.Row.{Fits, elements_of}
use Rattle.strides.specs.declared.places.Row.{Row}
use Rattle.strides.proofs.RowLaws.{keeps, by_width, length_element}
use Rattle.groups.specs.Exchanged.{exchanged}
use Rattle.strides.proofs.Parts.{strided_add, group_is, rest_inside, parts_whole}

-- Reversed bytes are single bytes backwards.
pub reversed_is : (l : List ℕ) (k : ℕ) → length l ≡ k → turned true l ≡ row_of (turned false) 1 l (k - 1) 0 1 k
unfolding row_of joined
reversed_is [] zero e = refl
reversed_is [] (suc k) e = absurd (omega arith)
reversed_is (x ∷ l) zero e = absurd (omega arith)
reversed_is (x ∷ l) (suc k) e =
    let at = suc k - 1 in
    let n : place at 0 1 k ≡ 0 = omega (arith, zero-mul k, one-mul k) in
    reverse-cons x l
    ∙ (λ j. reversed_is l k (omega arith) j ++ (x ∷ []))
    ∙ (λ j.
    joined_same k (λ (i : ℕ). take 1 (drop (place (k - 1) 0 1 i) l)) (λ (i : ℕ). take 1 (drop (place at 0 1 i) (x ∷ l)))
    (λ i h.
    let m : suc (place (k - 1) 0 1 i) ≡ place at 0 1 i = omega (arith, zero-mul i, one-mul i) in
    ap (λ (p : ℕ). take 1 (drop p (x ∷ l))) m) j
    ++ take 1 (drop (sym n j) (x ∷ l)))

-- A group of k bytes, made of its elements backwards, each made anew by f.
module _ (f made : List ℕ → List ℕ) (w c k : ℕ) (wide : k ≡ w * c) (each : (l : List ℕ) → length l ≡ k → made l ≡ row_of f w l (k - w) 0 w c) where
  inside_group : Inside (k - w) 0 w c w k
  inside_group i t = (omega (arith, zero-mul i, mul_room w i c t), omega (arith, zero-mul i, mul_room w i c t))

  -- It is the file's where the group stands.
  group : (s : List ℕ) (p : ℕ) → p + k ≤ length s → made (take k (drop p s)) ≡ row_of f w s (p + (k - w)) 0 w c
  group s p h = each _ (length_element k s p h) ∙ group_is f w s p k (k - w) 0 w c inside_group

  -- Groups backwards are elements backwards.
  pub groups_are : (s : List ℕ) (p m : ℕ) → Inside p 0 k m k (length s) → row_of made k s p 0 k m ≡ row_of f w s (p + (k - w)) 0 w (c * m)
  unfolding row_of joined
  groups_are s p zero h = ap (λ (j : ℕ). row_of f w s (p + (k - w)) 0 w j) (sym (mul-zero c))
  groups_are s p (suc m) h =
      let a = p + (k - w) in
      let t = h m (omega arith) in
      let v : k * m ≡ w * (c * m) = ap (λ (j : ℕ). j * m) wide ∙ mul_assoc w c m in
      let e : place p 0 k m + (k - w) ≡ place a 0 w (c * m) = omega (arith, zero-mul m, zero-mul (c * m)) in
      (λ j. groups_are s p m (λ i x. h i (omega arith)) j ++ group s (place p 0 k m) (omega arith) j)
      ∙ sym (strided_add f w s a 0 w (c * m) c (place p 0 k m + (k - w)) (omega (arith, zero-mul m, zero-mul (c * m))) e)
      ∙ ap (λ (j : ℕ). row_of f w s a 0 w j) (sym (mul-suc c m))

-- ---- A backward row in two parts of the buffer: groups of sixteen bytes, and what is left

backward_inside : (w len : ℕ) (r : Row) → r.up ≡ 0 → r.down ≡ w → Inside r.at r.up r.down r.count w len → Inside r.at 0 w r.count w len
backward_inside w len r up down inside = subst (λ (k : ℕ). Inside r.at 0 k r.count w len) down (subst (λ (k : ℕ). Inside r.at k r.down r.count w len) up inside)

-- Elements of w bytes fill a group, and so many groups are in n elements.
groups_fit : {w : ℕ} → Width w → (n : ℕ)
    → let c = 16 / w in let m = n / c in (16 ≡ w * c) × (w ≤ 16) × (m ≤ c * m) × (c * m ≤ 16 * m) × (c * m ≤ n)
groups_fit width n =
    by_width (λ (v : ℕ). let c = 16 / v in let m = n / c in (16 ≡ v * c) × (v ≤ 16) × (m ≤ c * m) × (c * m ≤ 16 * m) × (c * m ≤ n))
    (refl, omega arith, omega arith, omega arith, omega arith) (refl, omega arith, omega arith, omega arith, omega arith)
    (refl, omega arith, omega arith, omega arith, omega arith) (refl, omega arith, omega arith, omega arith, omega arith) width

module _ (w : ℕ) (width : Width w) (s d : List ℕ) (r : Row) (up : r.up ≡ 0) (down : r.down ≡ w) (fits : Fits r w (length s) (length d)) where
  abbrev c : ℕ
  c = 16 / w

  abbrev m : ℕ
  m = r.count / c

  abbrev h : ℕ
  h = 16 * m

  fit : (16 ≡ w * c) × (w ≤ 16) × (m ≤ c * m) × (c * m ≤ 16 * m) × (c * m ≤ r.count)
  fit = groups_fit width r.count

  inside : Inside r.at 0 w r.count w (length s)
  inside = backward_inside w (length s) r up down fits.inside

  as_elements : h ≡ w * (c * m)
  as_elements = ap (λ (j : ℕ). j * m) fit.0 ∙ mul_assoc w c m

  halves : w * r.count ≡ w * (c * m) + w * (r.count - c * m)
  halves =
      let y : c * m + (r.count - c * m) ≡ r.count = omega (arith, fit.4) in
      ap (λ (k : ℕ). w * k) (sym y) ∙ mul-add w (c * m) (r.count - c * m)

  -- The last element of the groups stands inside.
  reach : 0 < m → h ≤ r.at + w
  reach some =
      let last = c * m - 1 in
      let e : suc last ≡ c * m = omega (arith, fit.2) in
      let z : w * (c * m) ≡ w * last + w = ap (λ (j : ℕ). w * j) (sym e) ∙ mul-suc w last in
      omega (arith, as_elements, z, (inside last (omega (arith, e, fit.4))).0, zero-mul last)

  groups_inside : Inside (r.at - (16 - w)) 0 16 m 16 (length s)
  groups_inside i t =
      let b = inside 0 (omega (arith, fit.2, fit.4)) in (
        omega (arith, reach (omega arith), fit.1, zero-mul i),
        omega (arith, reach (omega arith), fit.1, b.1, zero-mul i),
      )

  groups_room : h ≤ length d
  groups_room = omega (arith, fits.out_len, halves, as_elements)

  pub groups_fits : (g : ℕ) → g ≡ r.at - (16 - w) → Fits (record { at = g; up = 0; down = 16; count = m }) 16 (length s) (length (take h d))
  groups_fits g e = record {
    inside = subst (λ (j : ℕ). Inside j 0 16 m 16 (length s)) (sym e) groups_inside;
    out_len = simp length-take (omega (arith, groups_room));
  }

  next : r.at - h ≡ place r.at 0 w (c * m)
  next = omega (arith, as_elements, zero-mul (c * m))

  before : c * m < r.count → w * (c * m) ≤ r.at + 0 * (c * m)
  before left = (inside (c * m) left).0

  -- What is left after the groups, of which the bytes are l.
  pub left_fits : (p : ℕ) (l : List ℕ) → p ≡ r.at - h → length l ≡ length (take h d)
      → Fits (record { at = p; up = 0; down = w; count = r.count - c * m }) w (length s)
      (length (take (length (patched 0 h d l) - h) (drop h (patched 0 h d l))))
  left_fits p l g e = record {
    inside = λ i t. rest_inside r.at 0 w (c * m) r.count p w (length s) fit.4 (before (omega arith)) (g ∙ next) inside i t;
    out_len =
        let k : length l ≡ h = e ∙ simp length-take (omega (arith, groups_room)) in
        simp (length-take, length-drop, length-append) (omega (arith, groups_room, k, fits.out_len, halves, as_elements));
  }

  -- The groups start where the row does.
  start : row_of (turned false) w s (r.at - (16 - w) + (16 - w)) 0 w (c * m) ≡ row_of (turned false) w s r.at 0 w (c * m)
  unfolding row_of
  start =
      joined_same (c * m) _ _
      (λ i t.
      let e : r.at - (16 - w) + (16 - w) ≡ r.at = omega (arith, reach (omega (arith, t, fit.3)), fit.1, fit.3, t) in
      ap (λ (j : ℕ). take w (drop (place j 0 w i) s)) e)

  pub row_is : (g p : ℕ) (l q : List ℕ) → g ≡ r.at - (16 - w) → p ≡ r.at - h → l ≡ row_of (exchanged w) 16 s g 0 16 m
      → q ≡ row_of (turned false) w s p 0 w (r.count - c * m)
      → patched h (length (patched 0 h d l) - h) (patched 0 h d l) q ≡ elements_of (turned false) w s r
  row_is g p l q eg ep first rest =
      let groups : l ≡ row_of (turned false) w s r.at 0 w (c * m) =
      first ∙ ap (λ (j : ℕ). row_of (exchanged w) 16 s j 0 16 m) eg
      ∙ groups_are (turned false) (exchanged w) w c 16 fit.0 (λ l e. refl) s (r.at - (16 - w)) m groups_inside ∙ start in
      parts_whole (turned false) w (keeps false) s r.at 0 w (c * m) r.count h p fit.4 before (ep ∙ next) inside d l as_elements fits.out_len groups q rest
      ∙ (λ k. row_of (turned false) w s r.at (sym up k) (sym down k) r.count)

-- ---- The bytes of each element reversed: single bytes backwards

pub bytes_are : (w : ℕ) (s : List ℕ) (r : Row) → r.up ≡ 0 → r.down ≡ w → Inside r.at r.up r.down r.count w (length s)
    → row_of (turned false) 1 s (r.at + (w - 1)) 0 1 (w * r.count) ≡ elements_of (turned true) w s r
bytes_are w s r up down inside =
    sym (groups_are (turned false) (turned true) 1 w w (sym (one-mul w)) (λ l e. reversed_is l w e) s r.at r.count (backward_inside w (length s) r up down inside))
    ∙ (λ k. row_of (turned true) w s r.at (sym up k) (sym down k) r.count)

-- No element.
pub none : (f : List ℕ → List ℕ) (w : ℕ) (s : List ℕ) (at up down n : ℕ) (l : List ℕ) → n ≤ 0 → length l ≡ w * n → l ≡ row_of f w s at up down n
unfolding row_of joined
none f w s at up down zero [] e h = refl
none f w s at up down zero (x ∷ l) e h = absurd (omega (arith, mul-zero w))
none f w s at up down (suc n) l e h = absurd (omega arith)
