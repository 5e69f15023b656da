-- Sizes of arrays, which fit a number of 64 bits.
use mathlib.Core.Path.{◌≡◌, sym, ap}
use Prim.Native.Nat.{ℕ, ◌*◌, ◌≤◌}
use native.Mathlib.Nat.{mul-one, mul-le-mul_left, mul-le-mul_right}
use native.Mathlib.Omega.{arith}
use Rattle.raster.specs.Position.{product}
use Rattle.description.specs.Limits.{dim_limit}
use Rattle.frame.specs.Shape.{shape_dims, Small}
use Rattle.frame.specs.declared.dims.Shape.{Shape}

pub mul_most : (a b x y : ℕ) → a ≤ x → b ≤ y → a * b ≤ x * y
mul_most a b x y h k = omega (arith, mul-le-mul_left a k, mul-le-mul_right y h)

-- What two and three dimensions make at most.
abbrev pub plane_most : ℕ
plane_most = dim_limit * dim_limit

abbrev pub cube_most : ℕ
cube_most = dim_limit * plane_most

module _ (s : Shape) (small : Small s) where
  pub two_most : s.dim2 * s.dim3 ≤ plane_most
  two_most = mul_most s.dim2 s.dim3 dim_limit dim_limit small.few2 small.few3

  pub three_most : s.dim1 * (s.dim2 * s.dim3) ≤ cube_most
  three_most = mul_most s.dim1 (s.dim2 * s.dim3) dim_limit plane_most small.few1 two_most

  pub first_two_most : s.dim1 * s.dim2 ≤ plane_most
  first_two_most = mul_most s.dim1 s.dim2 dim_limit dim_limit small.few1 small.few2

  module _ (w : ℕ) (narrow : w ≤ 8) where
    pub array_most_lem : s.dim1 * (s.dim2 * s.dim3) * w ≤ cube_most * 8
    array_most_lem = mul_most (s.dim1 * (s.dim2 * s.dim3)) w cube_most 8 three_most narrow

    pub array_is : s.dim1 * (s.dim2 * s.dim3) * w ≡ product (shape_dims s) * w
    unfolding product
    array_is = ap (λ (x : ℕ). s.dim1 * (s.dim2 * x) * w) (sym (mul-one s.dim3))

    pub row_most_lem : w * s.dim1 ≤ 8 * dim_limit
    row_most_lem = mul_most w s.dim1 8 dim_limit narrow small.few1

    pub plane_most_lem : w * (s.dim1 * s.dim2) ≤ 8 * plane_most
    plane_most_lem = mul_most w (s.dim1 * s.dim2) 8 plane_most narrow first_two_most
