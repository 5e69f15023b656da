-- The axes that the code walks along: strides, dimensions and where each starts.
use mathlib.Core.Path.{◌≡◌, refl, sym, ap, subst}
use mathlib.Core.Bool.{Bool, true, false}
use mathlib.Core.List.{List}
use Prim.Native.Nat.{ℕ, zero, suc, ◌+◌, ◌-◌, ◌*◌, ◌≤◌}
use native.Mathlib.Nat.{zero-mul, mul-one, mul_comm}
use native.Mathlib.Omega.{arith}
use Rattle.raster.specs.Axis.{Axis, forward}
use Rattle.raster.specs.Position.{product, dim_of}
use Rattle.raster.specs.Strides.{axis_of}
use Rattle.description.specs.Limits.{dim_limit}
use Rattle.frame.specs.Shape.{shape_dims, Small}
use Rattle.frame.specs.declared.dims.Shape.{Shape}
use Rattle.frame.proofs.Sizes.{mul_most, plane_most, cube_most, array_most_lem, row_most_lem, plane_most_lem}
use Rattle.ordering.specs.Stored.{axis_at, stride_of, up_of, down_of, back_of, Ran, steps_along, stored_steps}
use Rattle.ordering.proofs.Orders.{order_permutes}
use Rattle.ordering.proofs.Walks.{runs, ends_inside, some_dims}

pub index_dim : (s : Shape) (k j : ℕ) → k ≡ j → dim_of (shape_dims s) (forward j) ≡ dim_of (shape_dims s) (forward k)
index_dim s k j e = ap (λ (n : ℕ). dim_of (shape_dims s) (forward n)) (sym e)

module _ (s : Shape) (small : Small s) where
  module _ (w : ℕ) (narrow : w ≤ 8) where
    -- ---- Strides and dimensions by the number of an index

    pub stride_first : (k : ℕ) → k ≡ 1 → w ≡ stride_of (shape_dims s) w (forward k)
    unfolding stride_of product
    stride_first k e = rw e (sym (mul-one w))

    pub stride_second : (k : ℕ) → k ≡ 2 → w * s.dim1 ≡ stride_of (shape_dims s) w (forward k)
    unfolding stride_of product
    stride_second k e = rw (e, mul-one s.dim1)

    pub stride_third : (k : ℕ) → k ≡ 3 → w * (s.dim1 * s.dim2) ≡ stride_of (shape_dims s) w (forward k)
    unfolding stride_of product
    stride_third k e = rw (e, mul-one s.dim2)

    stride_most : (k : ℕ) → 1 ≤ k → k ≤ 3 → stride_of (shape_dims s) w (forward k) ≤ 8 * plane_most
    unfolding stride_of product
    stride_most zero h l = absurd (omega arith)
    stride_most (suc zero) h l = omega (arith, mul-one w)
    stride_most (suc (suc zero)) h l = omega (arith, ap (λ (x : ℕ). w * x) (mul-one s.dim1), row_most_lem s small w narrow)
    stride_most (suc (suc (suc zero))) h l = omega (arith, ap (λ (x : ℕ). w * (s.dim1 * x)) (mul-one s.dim2), plane_most_lem s small w narrow)
    stride_most (suc (suc (suc (suc k)))) h l = absurd (omega arith)

  pub dim_within : (k : ℕ) → 1 ≤ k → k ≤ 3 → (1 ≤ dim_of (shape_dims s) (forward k)) × (dim_of (shape_dims s) (forward k) ≤ dim_limit)
  dim_within zero h l = absurd (omega arith)
  dim_within (suc zero) h l = (small.some1, small.few1)
  dim_within (suc (suc zero)) h l = (small.some2, small.few2)
  dim_within (suc (suc (suc zero))) h l = (small.some3, small.few3)
  dim_within (suc (suc (suc (suc k)))) h l = absurd (omega arith)

  pub back_fits : (w k d t : ℕ) → w ≤ 8 → 1 ≤ k → k ≤ 3 → d ≡ dim_of (shape_dims s) (forward k) → t ≡ stride_of (shape_dims s) w (forward k)
      → (1 ≤ d) × (t * (d - 1) ≤ cube_most * 8)
  back_fits w k d t narrow h l e q =
      let most = dim_within k h l in
      (omega arith, mul_most t (d - 1) (8 * plane_most) dim_limit (omega (arith, stride_most w narrow k h l)) (omega arith))

-- ---- One axis

module _ (dims : List ℕ) (w k : ℕ) {b : Bool} {d t : ℕ} (e : d ≡ dim_of dims (forward k)) (q : t ≡ stride_of dims w (forward k)) where
  pub forward_run : b ≡ false → Ran dims w (axis_of b k) d t 0 0
  unfolding up_of down_of back_of
  forward_run f = rw f ((e, q), (refl, sym (zero-mul (dim_of dims (forward k) - 1))))

  pub backward_run : b ≡ true → Ran dims w (axis_of b k) d 0 t (t * (d - 1))
  unfolding up_of down_of back_of stride_of
  backward_run f = rw f ((e, refl), (q, (λ i. q i * (e i - 1))))

-- ---- Three axes

module _ (s : Shape) (w number : ℕ) (small : Small s) (narrow : w ≤ 8) (low : 1 ≤ number) (high : number ≤ 48) where
  abbrev dims : List ℕ
  dims = shape_dims s

  abbrev three : ℕ → Axis
  three k = axis_at number k

  -- Where they start together.
  pub starts_fit : back_of dims w (three 0) + back_of dims w (three 1) + back_of dims w (three 2) ≤ cube_most * 8
  starts_fit =
      let p = order_permutes number low high in
      let d = some_dims s.dim1 s.dim2 s.dim3 small.some1 small.some2 small.some3 p in
      omega (
        arith,
        ends_inside s.dim1 s.dim2 s.dim3 w (three 0) (three 1) (three 2) p d.0 d.1 d.2,
        (runs dims w (three 0) 0 d.0).most,
        (runs dims w (three 1) 0 d.1).most,
        (runs dims w (three 2) 0 d.2).most,
        array_most_lem s small w narrow,
        mul_comm w (s.dim1 * (s.dim2 * s.dim3)),
      )

  pub walk_is : {a1 u1 n1 b1 a2 u2 n2 b2 a3 u3 n3 b3 : ℕ} → Ran dims w (three 0) a1 u1 n1 b1 → Ran dims w (three 1) a2 u2 n2 b2
      → Ran dims w (three 2) a3 u3 n3 b3
      → record { at = b1 + b2 + b3; up1 = u1; down1 = n1; up2 = u2; down2 = n2; up3 = u3; down3 = n3 } ≡ stored_steps dims w number
  unfolding stored_steps steps_along
  walk_is r1 r2 r3 =
      λ i. record {
        at = r1.1.1 i + r2.1.1 i + r3.1.1 i;
        up1 = r1.0.1 i;
        down1 = r1.1.0 i;
        up2 = r2.0.1 i;
        down2 = r2.1.0 i;
        up3 = r3.0.1 i;
        down3 = r3.1.0 i;
      }

pub ran_at : (dims : List ℕ) (w : ℕ) {d u n b : ℕ} {a x : Axis} → a ≡ x → Ran dims w a d u n b → Ran dims w x d u n b
ran_at dims w {d} {u} {n} {b} e r = subst (λ (y : Axis). Ran dims w y d u n b) e r
