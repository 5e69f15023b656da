-- Elements that stand one after another, in groups of sixteen bytes.
use mathlib.Core.Path.{◌≡◌, refl, sym, ap, subst, ◌∙◌}
use mathlib.Core.Bool.{true}
use mathlib.Core.List.{List, ◌++◌}
use Prim.Native.Nat.{ℕ, zero, suc, ◌+◌, ◌-◌, ◌*◌, ◌/◌, ◌≤◌}
use native.Mathlib.Nat.{zero-mul, mul-zero, mul-suc, mul_assoc}
use native.Mathlib.Omega.{arith}
use lib.ListN.{length}
use Rattle.raster.specs.Bytes.{joined}
use Rattle.raster.specs.Strided.{turned, patched, place, Inside, Width, row_of}
use Rattle.strides.specs.Row.{Fits, elements_of}
use Rattle.strides.specs.declared.places.Row.{Row}
use Rattle.strides.proofs.Filling.{mul_room}
use Rattle.strides.proofs.RowLaws.{keeps, by_width}
use Rattle.strides.proofs.Parts.{strided_add, group_is, parts_whole}

-- Groups of k bytes, each of c elements of w bytes that are made anew by f, are those elements.
module _ (f : List ℕ → List ℕ) (w c k : ℕ) (wide : k ≡ w * c) (s : List ℕ) (at : ℕ) where
  abbrev pub group : List ℕ → List ℕ
  group l = row_of f w l 0 w 0 c

  inside_group : Inside 0 w 0 c w k
  inside_group i t = (omega (arith, zero-mul i), omega (arith, mul_room w i c t))

  pub run_groups : (m : ℕ) → row_of group k s at k 0 m ≡ row_of f w s at w 0 (c * m)
  unfolding row_of joined
  run_groups zero = ap (λ (j : ℕ). row_of f w s at w 0 j) (sym (mul-zero c))
  run_groups (suc m) =
      let v : k * m ≡ w * (c * m) = ap (λ (j : ℕ). j * m) wide ∙ mul_assoc w c m in
      let p = place at k 0 m in
      let e : p + 0 ≡ place at w 0 (c * m) = omega (arith, zero-mul m, zero-mul (c * m)) in
      (λ j. run_groups m j ++ group_is f w s p k 0 w 0 c inside_group j)
      ∙ sym (strided_add f w s at w 0 (c * m) c (p + 0) (omega (arith, zero-mul (c * m))) e)
      ∙ ap (λ (j : ℕ). row_of f w s at w 0 j) (sym (mul-suc c m))

groups_fit : {w : ℕ} → Width w → (n : ℕ) → (16 ≡ w * (16 / w)) × (16 / w * (n / (16 / w)) ≤ n)
groups_fit width n =
    by_width (λ (v : ℕ). (16 ≡ v * (16 / v)) × (16 / v * (n / (16 / v)) ≤ n)) (refl, omega arith) (refl, omega arith) (refl, omega arith) (refl, omega arith) width

-- A run in two parts of the buffer: groups of sixteen bytes, and what is left.
module _ (w : ℕ) (width : Width w) (s d : List ℕ) (r : Row) (up : r.up ≡ w) (down : r.down ≡ 0) (fits : Fits r w (length s) (length d)) where
  abbrev c : ℕ
  c = 16 / w

  abbrev m : ℕ
  m = r.count / c

  abbrev h : ℕ
  h = 16 * m

  pub fit : (16 ≡ w * c) × (c * m ≤ r.count)
  fit = groups_fit width r.count

  as_elements : h ≡ w * (c * m)
  as_elements = ap (λ (j : ℕ). j * m) fit.0 ∙ mul_assoc w c m

  inside : Inside r.at w 0 r.count w (length s)
  inside = subst (λ (k : ℕ). Inside r.at w k r.count w (length s)) down (subst (λ (k : ℕ). Inside r.at k r.down r.count w (length s)) up fits.inside)

  pub run_whole : (l q : List ℕ) → l ≡ row_of (group (turned true) w c 16 fit.0 s r.at) 16 s r.at 16 0 m
      → q ≡ row_of (turned true) w s (r.at + h) w 0 (r.count - c * m)
      → patched h (length (patched 0 h d l) - h) (patched 0 h d l) q ≡ elements_of (turned true) w s r
  run_whole l q first rest =
      parts_whole (turned true) w (keeps true) s r.at w 0 (c * m) r.count h (r.at + h) fit.1 (λ t. omega (arith, zero-mul (c * m)))
      (omega (arith, as_elements, zero-mul (c * m))) inside d l as_elements fits.out_len (first ∙ run_groups (turned true) w c 16 fit.0 s r.at m) q rest
      ∙ (λ k. row_of (turned true) w s r.at (sym up k) (sym down k) r.count)
