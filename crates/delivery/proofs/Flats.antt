-- A plane whose rows stand one after another is a row, and so is a cube whose planes do.
use mathlib.Core.Path.{◌≡◌, refl, sym, ap, subst, transport, ◌∙◌}
use mathlib.Core.Bool.{true}
use mathlib.Core.List.{List, [], ◌++◌}
use Prim.Native.Nat.{ℕ, zero, suc, ◌+◌, ◌*◌, ◌≤◌, ◌<◌}
use native.Mathlib.Nat.{mul_assoc, mul-suc, suc-mul, mul-zero, zero-mul, mul-one, mul-le-mul_left}
use native.Mathlib.Omega.{arith}
use borrow.Author.Tests.{eqb-true}
use lib.ListN.{length, drop}
use Rattle.scan.specs.Buffer.{over}
use Rattle.scan.proofs.Cases.{both_true}
use Rattle.raster.specs.Bytes.{joined}
use Rattle.raster.specs.Strided.{place, Inside, Inside2, row_of, plane_of}
use Rattle.strides.specs.Row.{elements_of}
use Rattle.strides.specs.declared.places.Row.{Row}
use Rattle.conversion.specs.Plane.{IsInside, rows_of}
use Rattle.conversion.specs.declared.rows.Plane.{Plane}
use Rattle.raster.proofs.Joined.{joined_same}
use Rattle.strides.proofs.Filling.{length-joined, over_part}
use Rattle.strides.proofs.RowLaws.{length_row}
use Rattle.strides.proofs.Parts.{row_add}
use Rattle.delivery.specs.Cube.{plane_at, IsCubeInside, planes_of}
use Rattle.delivery.specs.Flat.{flat, flat_cube}
use Rattle.delivery.specs.declared.arrays.Cube.{Cube}

-- ---- The test

pub flat_steps : (w : ℕ) (p : Plane) → flat w p ≡ true
    → (p.first.up ≡ w) × ((p.first.down ≡ 0) × ((p.down ≡ 0) × (p.up ≡ w * p.first.count)))
unfolding flat
flat_steps w p e =
    let x = both_true _ _ e in
    let y = both_true _ _ x.1 in
    let z = both_true _ _ y.1 in
    (eqb-true p.first.up w x.0, (eqb-true p.first.down 0 y.0, (eqb-true p.down 0 z.0, eqb-true p.up (w * p.first.count) z.1)))

-- ---- The row

plane_row : (f : List ℕ → List ℕ) (w : ℕ) (s : List ℕ) (at n1 n2 : ℕ) → plane_of f w s at w 0 n1 (w * n1) 0 n2 ≡ row_of f w s at w 0 (n1 * n2)
unfolding plane_of row_of joined
plane_row f w s at n1 zero = ap (λ (n : ℕ). row_of f w s at w 0 n) (sym (mul-zero n1))
plane_row f w s at n1 (suc n2) =
    let e : place at (w * n1) 0 n2 ≡ at + w * (n1 * n2) = omega (arith, mul_assoc w n1 n2, zero-mul n2) in
    (λ j. plane_row f w s at n1 n2 j ++ row_of f w s (e j) w 0 n1)
    ∙ sym (row_add f w s at (n1 * n2) n1) ∙ ap (λ (n : ℕ). row_of f w s at w 0 n) (sym (mul-suc n1 n2))

row_inside : (w at n1 n2 len : ℕ) → Inside2 at w 0 n1 (w * n1) 0 n2 w len → Inside at w 0 (n1 * n2) w len
row_inside w at zero n2 len h k lt = absurd (omega (arith, zero-mul n2))
row_inside w at (suc a) zero len h k lt = absurd (omega (arith, mul-zero (suc a)))
row_inside w at (suc a) (suc b) len h k lt =
    let r = (h b (omega arith)).1 a (omega arith) in
    let m : w * suc k ≡ w * k + w = mul-suc w k in
    let x : w * suc k ≤ w * (suc a * suc b) = mul-le-mul_left w lt in
    let y : w * (suc a * suc b) ≡ w * suc a * b + (w * a + w) =
    sym (mul_assoc w (suc a) (suc b)) ∙ mul-suc (w * suc a) b ∙ ap (λ (z : ℕ). w * suc a * b + z) (mul-suc w a) in
    (omega (arith, zero-mul k), omega (arith, r.1, zero-mul b))

-- The row that a flat plane is.
abbrev pub flat_row_of : Plane → Row
flat_row_of p = record { at = p.first.at; up = p.first.up; down = p.first.down; count = p.first.count * p.count }

module _ (w : ℕ) (p : Plane) (is : flat w p ≡ true) where
  pub flat_inside : (len : ℕ) → IsInside p w len → Inside p.first.at p.first.up p.first.down (p.first.count * p.count) w len
  flat_inside len h =
      let e = flat_steps w p is in
      transport (λ j. Inside p.first.at (sym e.0 j) (sym e.1.0 j) (p.first.count * p.count) w len)
      (row_inside w p.first.at p.first.count p.count len
      (transport (λ j. Inside2 p.first.at (e.0 j) (e.1.0 j) p.first.count (e.1.1.1 j) (e.1.1.0 j) p.count w len) h))

  pub flat_row : (f : List ℕ → List ℕ) (s : List ℕ) → elements_of f w s (flat_row_of p) ≡ rows_of f w s p
  flat_row f s =
      let e = flat_steps w p is in
      let n = p.first.count * p.count in
      (λ j. row_of f w s p.first.at (e.0 j) (e.1.0 j) n)
      ∙ sym ((λ j. plane_of f w s p.first.at (e.0 j) (e.1.0 j) p.first.count (e.1.1.1 j) (e.1.1.0 j) p.count) ∙ plane_row f w s p.first.at p.first.count p.count)

-- ---- The cube

module _ (w : ℕ) (c : Cube) (is : flat_cube w c ≡ true) where
  abbrev n1 : ℕ
  n1 = c.first.first.count

  abbrev n2 : ℕ
  n2 = c.first.count

  cube_steps : (c.down ≡ 0) × ((c.up ≡ w * (n1 * n2)) × (flat w c.first ≡ true))
  unfolding flat_cube
  cube_steps =
      let p = both_true _ _ is in
      let q = both_true _ _ p.1 in
      (eqb-true c.down 0 p.0, (eqb-true c.up (w * n1 * n2) q.0 ∙ mul_assoc w n1 n2, q.1))

  -- Each of its planes is flat too.
  plane_flat : (i : ℕ) → flat w (plane_at c i) ≡ true
  unfolding flat
  plane_flat i = cube_steps.1.1

  -- The cube as a plane, of its planes as rows.
  abbrev row : Row
  row = flat_row_of c.first

  pub cube_inside : (len : ℕ) → IsCubeInside c w len → Inside row.at row.up row.down (n1 * n2 * c.count) w len
  cube_inside len h =
      let e = cube_steps in
      let g = flat_steps w c.first e.1.1 in
      transport (λ j. Inside row.at (sym g.0 j) (sym g.1.0 j) (n1 * n2 * c.count) w len)
      (row_inside w row.at (n1 * n2) c.count len
      (transport (λ j. Inside2 row.at (g.0 j) (g.1.0 j) (n1 * n2) (e.1.0 j) (e.0 j) c.count w len)
      (λ i k. ((h i k).0, flat_inside w (plane_at c i) (plane_flat i) len (h i k).1))))

  pub cube_row : (f : List ℕ → List ℕ) (s : List ℕ) → row_of f w s row.at row.up row.down (n1 * n2 * c.count) ≡ planes_of f w s c
  unfolding plane_of planes_of
  cube_row f s =
      let e = cube_steps in
      let g = flat_steps w c.first e.1.1 in
      (λ j. row_of f w s row.at (g.0 j) (g.1.0 j) (n1 * n2 * c.count))
      ∙ sym
      (joined_same c.count _ _ (λ i k. sym (flat_row w (plane_at c i) (plane_flat i) f s))
      ∙ (λ j. plane_of f w s row.at (g.0 j) (g.1.0 j) (n1 * n2) (e.1.0 j) (e.0 j) c.count) ∙ plane_row f w s row.at (n1 * n2) c.count)

  -- Written as a row, at the front of d.
  pub cube_written : (f : List ℕ → List ℕ) → ((l : List ℕ) → length l ≡ w → length (f l) ≡ w) → (s : List ℕ) → IsCubeInside c w (length s)
      → (k : ℕ) (d q : List ℕ) → k ≡ w * (n1 * n2 * c.count) → q ≡ row_of f w s row.at row.up row.down (n1 * n2 * c.count)
      → q ++ drop k d ≡ over (planes_of f w s c) d
  cube_written f keeps s h k d q e g =
      let n = n1 * n2 * c.count in
      over_part [] q d d 0 k refl refl (ap length g ∙ length_row f w keeps s row.at row.up row.down n (cube_inside (length s) h) ∙ sym e)
      ∙ ap (λ (l : List ℕ). over l d) (g ∙ cube_row f s)

-- ---- The cube of planes that have one row

place_first : (at up down : ℕ) → place at up down 0 ≡ at
place_first at up down = omega (arith, mul-zero up, mul-zero down)

-- Its rows are a plane.
abbrev pub rows_across : Cube → Plane
rows_across c = record { first = c.first.first; up = c.up; down = c.down; count = c.count }

module _ (w : ℕ) (c : Cube) (one : c.first.count ≡ 1) where
  pub across_inside : (len : ℕ) → IsCubeInside c w len → IsInside (rows_across c) w len
  across_inside len h i k =
      let r = c.first.first in
      let at = place r.at c.up c.down i in
      ((h i k).0, subst (λ (x : ℕ). Inside x r.up r.down r.count w len) (place_first at c.first.up c.first.down) ((h i k).1 0 (omega arith)).1)

  across_rows : (f : List ℕ → List ℕ) (s : List ℕ) → rows_of f w s (rows_across c) ≡ planes_of f w s c
  unfolding planes_of plane_of joined
  across_rows f s =
      let r = c.first.first in
      joined_same c.count _ _
      (λ i k.
      let at = place r.at c.up c.down i in
      sym
      (ap (λ (n : ℕ). plane_of f w s at r.up r.down r.count c.first.up c.first.down n) one
      ∙ ap (λ (x : ℕ). row_of f w s x r.up r.down r.count) (place_first at c.first.up c.first.down)))

  -- Written as a plane, at the front of d.
  pub across_written : (f : List ℕ → List ℕ) → ((l : List ℕ) → length l ≡ w → length (f l) ≡ w) → (s : List ℕ) → IsCubeInside c w (length s)
      → (k : ℕ) (d q : List ℕ) → k ≡ w * c.first.first.count * c.count → q ≡ rows_of f w s (rows_across c)
      → q ++ drop k d ≡ over (planes_of f w s c) d
  unfolding plane_of
  across_written f keeps s h k d q e g =
      let r = c.first.first in
      let m =
      length-joined c.count (w * r.count) _
      (λ i t. length_row f w keeps s (place r.at c.up c.down i) r.up r.down r.count (across_inside (length s) h i t).1)
      in
      over_part [] q d d 0 k refl refl (ap length g ∙ m ∙ sym e) ∙ ap (λ (l : List ℕ). over l d) (g ∙ across_rows f s)

-- ---- Lengths

pub fewer : (w a b len : ℕ) → 0 < w → len ≡ w * a * b → (a * b ≤ len) × (len ≡ w * (a * b))
fewer (suc v) a b len h e =
    let x : suc v * a * b ≡ suc v * (a * b) = mul_assoc (suc v) a b in
    let y : suc v * (a * b) ≡ v * (a * b) + a * b = suc-mul v (a * b) in
    (omega arith, e ∙ x)
fewer zero a b len h e = absurd (omega arith)

-- Of a cube that has room for all its elements, and at least one plane.
module _ (w a b c len : ℕ) (wide : 0 < w) (some : 1 < c) (room : w * a * b * c ≤ len) where
  pub cube_bytes : w * (a * b * c) ≡ w * a * b * c
  cube_bytes = sym (mul_assoc w (a * b) c) ∙ ap (λ (x : ℕ). x * c) (sym (mul_assoc w a b))

  pub cube_fits : (w * a * b ≤ len) × ((a * b ≤ len) × (a * b * c ≤ len))
  cube_fits =
      let h : 1 ≤ c = omega arith in
      let x = mul-le-mul_left (w * a * b) h in
      let y = mul-one (w * a * b) in
      let z = fewer w a b (w * a * b) wide refl in
      let v = fewer w (a * b) c (w * (a * b) * c) wide refl in
      (omega arith, (omega (arith, z.0), omega (arith, v.0, v.1, cube_bytes)))
