-- A valid array at the steps of its configuration: all elements are inside its data, and what is delivered at the steps is the
-- array delivered.
use mathlib.Core.Path.{◌≡◌, refl, sym, ap, subst, ◌∙◌}
use mathlib.Core.List.{List, [], ◌∷◌}
use Prim.Native.Nat.{ℕ, zero, suc, ◌+◌, ◌*◌, ◌^◌, ◌≤◌, ◌<◌}
use native.Mathlib.Nat.{mul_comm, mul_assoc, mul-one, le-mul_of_pos_right}
use native.Mathlib.Omega.{arith}
use lib.ListN.{length, take, drop}
use Rattle.raster.specs.Axis.{configurations, order_of}
use Rattle.raster.specs.Bytes.{joined}
use Rattle.raster.specs.Element.{element_bytes}
use Rattle.raster.specs.Position.{product, stored_position}
use Rattle.raster.specs.Strided.{place_of, Inside3, delivered_at}
use Rattle.raster.specs.Strides.{steps_of}
use Rattle.raster.specs.declared.stride.Steps.{Steps}
use Rattle.raster.proofs.Joined.{joined_length, joined_same}
use Rattle.raster.proofs.OrderLaws.{as_three}
use Rattle.raster.proofs.RoundTrip.{length_bytes}
use Rattle.raster.proofs.StepLaws.{steps_lead, steps-inside}
use Rattle.description.specs.Shape.{array_type, array_dims, array_order}
use Rattle.description.specs.Valid.{ValidArray}
use Rattle.description.specs.declared.Description.{Description}
use Rattle.array.specs.Delivery.{stored_element, delivered_element, delivered}

few_configurations : (n : ℕ) → n ≤ 3 → configurations n ≤ 48
unfolding configurations
few_configurations zero h = omega arith
few_configurations (suc zero) h = omega arith
few_configurations (suc (suc zero)) h = omega arith
few_configurations (suc (suc (suc zero))) h = omega arith
few_configurations (suc (suc (suc (suc n)))) h = absurd (omega arith)

product_by : (n a b c : ℕ) → 1 ≤ n → n ≤ 3 → (n < 2 → b ≡ 1) → (n < 3 → c ≡ 1) → product (take n (a ∷ b ∷ c ∷ [])) ≡ a * b * c
unfolding product
product_by zero a b c some few e2 e3 = absurd (omega arith)
product_by (suc zero) a b c some few e2 e3 = rw (e2 (omega arith), e3 (omega arith), mul-one a, mul-one a)
product_by (suc (suc zero)) a b c some few e2 e3 = rw (e3 (omega arith), mul-one b, mul-one (a * b))
product_by (suc (suc (suc zero))) a b c some few e2 e3 = rw (mul-one c, mul_assoc a b c)
product_by (suc (suc (suc (suc n)))) a b c some few e2 e3 = absurd (omega arith)

-- The steps of an array.
abbrev pub array_steps : Description → Steps
array_steps d = steps_of (array_type d).width (order_of 3 d.configuration) d.dim1 d.dim2 d.dim3

-- ---- Lengths

pub length-delivered_element : (d : Description) (asked : ℕ) (l : List ℕ) (i1 i2 i3 : ℕ)
    → length (delivered_element d asked l i1 i2 i3) ≡ (array_type d).width
unfolding delivered_element element_bytes
length-delivered_element d asked l i1 i2 i3 = length_bytes asked (array_type d).width _

pub length_row : (d : Description) (asked : ℕ) (l : List ℕ) (i2 i3 : ℕ)
    → length (joined d.dim1 (λ (i1 : ℕ). delivered_element d asked l i1 i2 i3)) ≡ d.dim1 * (array_type d).width
length_row d asked l i2 i3 = joined_length (array_type d).width _ (λ i1. length-delivered_element d asked l i1 i2 i3) d.dim1

pub length_plane : (d : Description) (asked : ℕ) (l : List ℕ) (i3 : ℕ)
    → length (joined d.dim2 (λ (i2 : ℕ). joined d.dim1 (λ (i1 : ℕ). delivered_element d asked l i1 i2 i3)))
    ≡ d.dim2 * (d.dim1 * (array_type d).width)
length_plane d asked l i3 = joined_length (d.dim1 * (array_type d).width) _ (λ i2. length_row d asked l i2 i3) d.dim2

length_cube : (d : Description) (asked : ℕ) (l : List ℕ)
    → length (delivered d asked l) ≡ d.dim3 * (d.dim2 * (d.dim1 * (array_type d).width))
unfolding delivered
length_cube d asked l =
    joined_length (d.dim2 * (d.dim1 * (array_type d).width)) _ (λ i3. length_plane d asked l i3) d.dim3

turned_about : (a b c w : ℕ) → c * (b * (a * w)) ≡ w * a * b * c
turned_about a b c w = rw (mul_comm c (b * (a * w)), mul_comm b (a * w), mul_comm a w)

-- An empty array.
joined_nothing : (n : ℕ) (f : ℕ → List ℕ) → ((k : ℕ) → f k ≡ []) → joined n f ≡ []
unfolding joined
joined_nothing zero f e = refl
joined_nothing (suc n) f e = rw (e n, joined_nothing n f e)

joined_none : (n : ℕ) (f : ℕ → List ℕ) → n ≡ 0 → joined n f ≡ []
unfolding joined
joined_none n f e = rw e

pub empty_delivered : (d : Description) (asked : ℕ) (l : List ℕ) → d.dim1 ≡ 0 → delivered d asked l ≡ []
unfolding delivered
empty_delivered d asked l e =
    joined_nothing d.dim3 _ (λ i3. joined_nothing d.dim2 _ (λ i2. joined_none d.dim1 _ e))

-- ---- A valid array

module _ (d : Description) (size : ℕ) (v : ValidArray d size) where
  pub few : d.configuration ≤ 48
  few = omega (arith, v.configured, few_configurations d.n v.few)

  pub product_is : product (array_dims d) ≡ d.dim1 * d.dim2 * d.dim3
  product_is = product_by d.n d.dim1 d.dim2 d.dim3 v.at_least_one v.few v.past2 v.past3

  pub room_is : (w : ℕ) → w * (d.dim1 * d.dim2 * d.dim3) ≡ product (array_dims d) * w
  room_is w = rw product_is (mul_comm w (d.dim1 * d.dim2 * d.dim3))

  cube_is : (w : ℕ) → w * d.dim1 * d.dim2 * d.dim3 ≡ product (array_dims d) * w
  cube_is w = rw (mul_assoc w d.dim1 d.dim2, mul_assoc w (d.dim1 * d.dim2) d.dim3) (room_is w)

  -- "Delivery writes Dims' product times width bytes"
  pub length-delivered : (asked : ℕ) (l : List ℕ) → length (delivered d asked l) ≡ product (array_dims d) * (array_type d).width
  length-delivered asked l =
      let w = (array_type d).width in
      length_cube d asked l ∙ turned_about d.dim1 d.dim2 d.dim3 w ∙ cube_is w

  -- The steps lead to the stored elements.
  stored_three : (i1 i2 i3 : ℕ) → i2 < d.dim2 → i3 < d.dim3
      → stored_position (array_dims d) (array_order d) (i1 ∷ i2 ∷ i3 ∷ [])
      ≡ stored_position (d.dim1 ∷ d.dim2 ∷ d.dim3 ∷ []) (order_of 3 d.configuration) (i1 ∷ i2 ∷ i3 ∷ [])
  stored_three i1 i2 i3 h2 h3 =
      as_three d.n d.configuration (d.dim1 ∷ d.dim2 ∷ d.dim3 ∷ []) i1 i2 i3 v.at_least_one v.few (omega (arith, v.configured))
      (λ h. omega (arith, v.past2 h)) (λ h. omega (arith, v.past3 h))

  pub stored_place : (l : List ℕ) (i1 i2 i3 : ℕ) → i1 < d.dim1 → i2 < d.dim2 → i3 < d.dim3
      → stored_element d l i1 i2 i3 ≡ take (array_type d).width (drop (place_of (array_steps d) i1 i2 i3) l)
  unfolding stored_element
  stored_place l i1 i2 i3 h1 h2 h3 =
      let w = (array_type d).width in
      ap (λ (p : ℕ). take w (drop (p * w) l)) (stored_three i1 i2 i3 h2 h3)
      ∙ ap (λ (p : ℕ). take w (drop p l)) (sym (steps_lead w d.configuration d.dim1 d.dim2 d.dim3 few i1 i2 i3 h1 h2 h3))

  pub delivered_at_lem : (asked : ℕ) (l : List ℕ)
      → delivered_at (array_type d) d.byteorder d.offset asked l (array_steps d) d.dim1 d.dim2 d.dim3 ≡ delivered d asked l
  unfolding delivered_at delivered delivered_element
  delivered_at_lem asked l =
      joined_same d.dim3 _ _
      (λ i3 h3.
      joined_same d.dim2 _ _
      (λ i2 h2.
      joined_same d.dim1 _ _
      (λ i1 h1.
      ap (element_bytes (array_type d) d.byteorder d.offset asked) (sym (stored_place l i1 i2 i3 h1 h2 h3)))))

  -- All elements are inside the data.
  pub array_inside : 1 ≤ d.dim1 → Inside3 (array_steps d) d.dim1 d.dim2 d.dim3 (array_type d).width size
  array_inside h =
      let w = (array_type d).width in
      steps-inside w d.configuration d.dim1 d.dim2 d.dim3 few h v.some2 v.some3 size (omega (arith, room_is w, v.stored))

  pub element_inside : (i1 i2 i3 : ℕ) → i1 < d.dim1 → i2 < d.dim2 → i3 < d.dim3
      → place_of (array_steps d) i1 i2 i3 + (array_type d).width ≤ size
  element_inside i1 i2 i3 h1 h2 h3 =
      let inside = (array_inside (omega arith) i3 h3).1 i2 h2 in
      let stands = inside.1 i1 h1 in
      omega arith

  -- ---- What code goes by, with the width that it found

  pub room_fits : (room : ℕ) → size < 2 ^ 64
      → let w = (array_type d).width in
      product (array_dims d) * w ≤ room → (w * d.dim1 < 2 ^ 64) × (w * d.dim1 * d.dim2 * d.dim3 ≤ room)
  room_fits room fits h =
      let w = (array_type d).width in (
        omega (
          arith,
          cube_is w,
          v.stored,
          le-mul_of_pos_right (w * d.dim1) v.some2,
          le-mul_of_pos_right (w * d.dim1 * d.dim2) v.some3,
        ),
        omega (arith, cube_is w),
      )

  module _ (w : ℕ) (wide : w ≡ (array_type d).width) where
    pub length_made : w * d.dim1 * d.dim2 * d.dim3 ≡ product (array_dims d) * (array_type d).width
    length_made = rw wide (cube_is (array_type d).width)

    pub length_fits : size < 2 ^ 64 → (w * d.dim1 < 2 ^ 64) × (w * d.dim1 * d.dim2 < 2 ^ 64) × (w * d.dim1 * d.dim2 * d.dim3 < 2 ^ 64)
    length_fits fits =
        let p = le-mul_of_pos_right (w * d.dim1) v.some2 in
        let q = le-mul_of_pos_right (w * d.dim1 * d.dim2) v.some3 in
        let k = v.stored in
        let e = length_made in
        (omega arith, omega arith, omega arith)

    pub steps_fit : size < 2 ^ 64 → w * (d.dim1 * d.dim2 * d.dim3) < 2 ^ 64
    steps_fit fits = rw wide (omega (arith, room_is (array_type d).width, v.stored))

    module _ (t : Steps) (made : t ≡ steps_of w (order_of 3 d.configuration) d.dim1 d.dim2 d.dim3) where
      pub steps_are : t ≡ array_steps d
      steps_are = made ∙ ap (λ (n : ℕ). steps_of n (order_of 3 d.configuration) d.dim1 d.dim2 d.dim3) wide

      pub steps_hold : 1 ≤ d.dim1 → Inside3 t d.dim1 d.dim2 d.dim3 (array_type d).width size
      steps_hold some1 =
          subst (λ (x : Steps). Inside3 x d.dim1 d.dim2 d.dim3 (array_type d).width size) (sym steps_are) (array_inside some1)

      pub delivered_made : (asked : ℕ) (l : List ℕ)
          → delivered_at (array_type d) d.byteorder d.offset asked l t d.dim1 d.dim2 d.dim3 ≡ delivered d asked l
      delivered_made asked l =
          ap (λ (x : Steps). delivered_at (array_type d) d.byteorder d.offset asked l x d.dim1 d.dim2 d.dim3) steps_are
          ∙ delivered_at_lem asked l
