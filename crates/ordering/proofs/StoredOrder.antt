-- The pixels read at the steps of a configuration are the stored pixels.
use mathlib.Core.Path.{◌≡◌, sym, ap, subst, ◌∙◌}
use mathlib.Core.List.{List, [], ◌∷◌, ◌++◌}
use Prim.Native.Nat.{ℕ, zero, suc, ◌+◌, ◌-◌, ◌*◌, ◌^◌, ◌≤◌, ◌<◌}
use native.Mathlib.Nat.{add-zero, mul-zero, mul-one, mul_comm, mul_assoc, suc-mul, mul-le-mul_left, mul-le-mul_right}
use native.Mathlib.Omega.{arith}
use lib.IntN.{pos}
use lib.ListN.{length, take, drop, get_or, replicate, length-take, length-drop}
use lib.Seq.{get_or-take}
use Rattle.raster.specs.Axis.{Axis, configurations, order_of}
use Rattle.raster.specs.Bytes.{number_of, bytes_of, joined}
use Rattle.raster.specs.Element.{element_bits, element_bytes}
use Rattle.raster.specs.Position.{product, index_of, dim_of, along, coordinate, position_from, stored_position, index_at, linear_position}
use Rattle.raster.specs.Strided.{Octets, place_of, Inside3, delivered_at}
use Rattle.raster.specs.Types.{DataType}
use Rattle.raster.specs.declared.stride.Steps.{Steps}
use Rattle.raster.proofs.Inverse.{along_twice, along_inside, stored_back}
use Rattle.raster.proofs.Joined.{joined_same, joined_rows_lem}
use Rattle.raster.proofs.OrderLaws.{as_three, order_extent}
use Rattle.raster.proofs.Positions.{extent, position_cons}
use Rattle.raster.proofs.RoundTrip.{number_bound, offset_zero}
use Rattle.raster.proofs.Stored.{octets_part}
use Rattle.frame.specs.File.{frame_dims, frame_type, pixel_bytes, stored_pixels, file_data}
use Rattle.rendering.specs.Render.{padding, filled}
use Rattle.frame.specs.Shape.{shape_dims, IsShape}
use Rattle.ordering.specs.Stored.{axis_at, steps_along, stored_steps}
use Rattle.frame.specs.declared.Frame.{Frame}
use Rattle.frame.specs.declared.dims.Shape.{Shape}
use Rattle.frame.proofs.Allowed.{Allowed, few_configurations}
use Rattle.frame.proofs.Codes.{type_wide}
use Rattle.frame.proofs.PixelLengths.{stored_length}
use Rattle.frame.proofs.ShapeLaws.{few_product, below}
use Rattle.ordering.proofs.Orders.{order_axes, order_permutes}
use Rattle.ordering.proofs.Walks.{Placed, placed, placed_bytes, walk_inside, some_dims}

-- ---- Fewer dimensions than three

module _ (d1 d2 d3 : ℕ) where
  abbrev three : List ℕ
  three = d1 ∷ d2 ∷ d3 ∷ []

  -- The position in the pixels.
  few_linear : (n i1 i2 i3 : ℕ) → 1 ≤ n → n ≤ 3 → (n < 2 → i2 ≡ 0) → (n < 3 → i3 ≡ 0)
      → linear_position (take n three) (take n (i1 ∷ i2 ∷ i3 ∷ [])) ≡ i1 + d1 * (i2 + d2 * i3)
  unfolding linear_position
  few_linear zero i1 i2 i3 some few e2 e3 = absurd (omega arith)
  few_linear (suc zero) i1 i2 i3 some few e2 e3 = rw (e2 (omega arith), e3 (omega arith), mul-zero d2)
  few_linear (suc (suc zero)) i1 i2 i3 some few e2 e3 = rw (e3 (omega arith))
  few_linear (suc (suc (suc zero))) i1 i2 i3 some few e2 e3 = rw (mul-zero d3, add-zero i3)
  few_linear (suc (suc (suc (suc n)))) i1 i2 i3 some few e2 e3 = absurd (omega arith)

  few_inside : (n i1 i2 i3 : ℕ) → n ≤ 3 → i1 < d1 → i2 < d2 → i3 < d3 → (k : ℕ) → k < n
      → get_or (i1 ∷ i2 ∷ i3 ∷ []) k 0 < get_or (take n three) k 1
  few_inside n i1 i2 i3 few h1 h2 h3 k l = rw (get_or-take n three k 1 l) (at k (omega arith))
    where
      at : (k : ℕ) → k < 3 → get_or (i1 ∷ i2 ∷ i3 ∷ []) k 0 < get_or three k 1
      at zero l = h1
      at (suc zero) l = h2
      at (suc (suc zero)) l = h3
      at (suc (suc (suc k))) l = absurd (omega arith)

-- ---- The element at a stored position

module _ (n number d1 d2 d3 : ℕ) (some : 1 ≤ n) (few : n ≤ 3) (e2 : n < 2 → d2 ≡ 1) (e3 : n < 3 → d3 ≡ 1)
    (low : 1 ≤ number) (high : number ≤ configurations n) where
  abbrev dims : List ℕ
  dims = d1 ∷ d2 ∷ d3 ∷ []

  pub most : number ≤ 48
  most = omega (arith, few_configurations n (record { low = some; high = few }))

  abbrev first : Axis
  first = axis_at number 0

  abbrev second : Axis
  second = axis_at number 1

  abbrev third : Axis
  third = axis_at number 2

  -- By its coordinates i, j and k along the axes.
  module _ (i j k : ℕ) (h1 : i < dim_of dims first) (h2 : j < dim_of dims second) (h3 : k < dim_of dims third) where
    pub index : Placed d1 d2 d3 (index_of first) (index_of second) (index_of third)
        (along first (dim_of dims first) i) (along second (dim_of dims second) j) (along third (dim_of dims third) k)
    index =
        placed d1 d2 d3 _ _ _ (order_permutes number low most) (along_inside first _ i h1) (along_inside second _ j h2) (along_inside third _ k h3)

    abbrev indices : List ℕ
    indices = index.i1 ∷ index.i2 ∷ index.i3 ∷ []

    abbrev pub linear_index : ℕ
    linear_index = index.i1 + d1 * (index.i2 + d2 * index.i3)

    stored_three : stored_position dims (order_of 3 number) indices ≡ i + dim_of dims first * (j + dim_of dims second * k)
    unfolding stored_position position_from
    stored_three =
        rw (order_axes number low most)
        (position_cons dims indices first (second ∷ third ∷ [])
        ∙ ap (λ (x : ℕ). coordinate dims indices first + dim_of dims first * x)
        (position_cons dims indices second (third ∷ [])
        ∙ ap (λ (x : ℕ). coordinate dims indices second + dim_of dims second * x)
        (position_cons dims indices third [] ∙ ap (λ (x : ℕ). coordinate dims indices third + x) (mul-zero (dim_of dims third)) ∙ add-zero _))
        ∙ (λ q. there first index.at1 h1 q + dim_of dims first * (there second index.at2 h2 q + dim_of dims second * there third index.at3 h3 q)))
      where
        there : (a : Axis) {x : ℕ} → get_or indices (index_of a - 1) 0 ≡ along a (dim_of dims a) x → x < dim_of dims a → coordinate dims indices a ≡ x
        there a {x} e h = ap (along a (dim_of dims a)) e ∙ along_twice a (dim_of dims a) x h

    -- The indices past n are 0.
    none2 : n < 2 → index.i2 ≡ 0
    none2 l = omega (arith, e2 l, index.inside)

    none3 : n < 3 → index.i3 ≡ 0
    none3 l = omega (arith, e3 l, index.inside)

    stored-few : stored_position (take n dims) (order_of n number) indices ≡ i + dim_of dims first * (j + dim_of dims second * k)
    stored-few = as_three n number dims index.i1 index.i2 index.i3 some few (omega arith) none2 none3 ∙ stored_three

    pub stored-index : linear_position (take n dims) (index_at (take n dims) (order_of n number) (i + dim_of dims first * (j + dim_of dims second * k))) ≡ linear_index
    stored-index =
        ap (λ (p : ℕ). linear_position (take n dims) (index_at (take n dims) (order_of n number) p)) (sym stored-few)
        ∙ ap (linear_position (take n dims))
        (stored_back n number (take n dims) indices (simp length-take (omega arith))
        (few_inside d1 d2 d3 n index.i1 index.i2 index.i3 few index.inside.0 index.inside.1 index.inside.2) (omega arith))
        ∙ few_linear d1 d2 d3 n index.i1 index.i2 index.i3 some few none2 none3

    pub linear-below : linear_index < d1 * (d2 * d3)
    linear-below =
        below index.i1 d1 (index.i2 + d2 * index.i3) (d2 * d3) index.inside.0 (below index.i2 d2 index.i3 d3 index.inside.1 index.inside.2)

    pub stored_place : (w : ℕ) → place_of (steps_along dims w first second third) i j k ≡ linear_index * w
    stored_place w = placed_bytes d1 d2 d3 w first second third (order_permutes number low most) i j k h1 h2 h3 index

  -- So many elements are along the axes.
  pub axes-count : dim_of dims first * (dim_of dims second * dim_of dims third) ≡ product (take n dims)
  unfolding order_of extent
  axes-count =
      ap (λ (x : ℕ). dim_of dims first * (dim_of dims second * x)) (sym (mul-one (dim_of dims third)))
      ∙ ap (extent dims) (sym (order_axes number low most)) ∙ order_extent 3 (number - 1) dims ∙ sym (few_product d1 d2 d3 n some few e2 e3)

-- ---- The bytes of an element

-- That are moved from the order with the high byte first.
moved : (t : DataType) (asked q : ℕ) (pixels : List ℕ) → Octets pixels → 0 < t.width → q * t.width + t.width ≤ length pixels
    → element_bytes t 1 (pos 0) asked (take t.width (drop (q * t.width) pixels))
    ≡ bytes_of asked t.width (number_of 1 (take t.width (drop (q * t.width) pixels)))
unfolding element_bytes element_bits
moved t asked q pixels octets some room =
    let l = take t.width (drop (q * t.width) pixels) in
    let wide : length l ≡ t.width = simp (length-take, length-drop) (omega arith) in
    let bound : number_of 1 l < 256 ^ t.width = rw wide at (number_bound 1 l (octets_part (q * t.width) t.width pixels octets)) in
    ap (bytes_of asked t.width) (offset_zero t.class t.width (number_of 1 l) some bound)

-- ---- All of them

module _ (f : Frame) (s : Shape) (allowed : Allowed f) (shape : IsShape f s) (pixels : List ℕ) (octets : Octets pixels)
    (whole : length pixels ≡ product (shape_dims s) * (frame_type f).width) where
  abbrev all : List ℕ
  all = shape_dims s

  abbrev w : ℕ
  w = (frame_type f).width

  abbrev axis : ℕ → Axis
  axis k = axis_at f.configuration k

  product_is : product all ≡ s.dim1 * (s.dim2 * s.dim3)
  unfolding product
  product_is = rw (mul-one s.dim3)

  -- The pixels as stored, in terms of three dimensions.
  abbrev element : List ℕ → ℕ → List ℕ
  element ds p = pixel_bytes f pixels (linear_position ds (index_at ds (order_of f.n f.configuration) p))

  stored_element_lem : (i j k : ℕ) → i < dim_of all (axis 0) → j < dim_of all (axis 1) → k < dim_of all (axis 2)
      → element_bytes (frame_type f) 1 (pos 0) f.byteorder (take w (drop (place_of (steps_along all w (axis 0) (axis 1) (axis 2)) i j k) pixels))
      ≡ element (take f.n all) (i + dim_of all (axis 0) * (j + dim_of all (axis 1) * k))
  unfolding pixel_bytes
  stored_element_lem i j k h1 h2 h3 =
      let n = allowed.n in
      let c = allowed.configuration in
      let q = linear_index f.n f.configuration s.dim1 s.dim2 s.dim3 n.low n.high shape.second shape.third c.low c.high i j k h1 h2 h3 in
      let less = linear-below f.n f.configuration s.dim1 s.dim2 s.dim3 n.low n.high shape.second shape.third c.low c.high i j k h1 h2 h3 in
      let place = stored_place f.n f.configuration s.dim1 s.dim2 s.dim3 n.low n.high shape.second shape.third c.low c.high i j k h1 h2 h3 w in
      let here = stored-index f.n f.configuration s.dim1 s.dim2 s.dim3 n.low n.high shape.second shape.third c.low c.high i j k h1 h2 h3 in
      let room : q * w + w ≤ length pixels = omega (arith, suc-mul q w, mul-le-mul_right w less, whole, ap (λ (x : ℕ). x * w) product_is) in
      ap (λ (p : ℕ). element_bytes (frame_type f) 1 (pos 0) f.byteorder (take w (drop p pixels))) place
      ∙ moved (frame_type f) f.byteorder q pixels octets (type_wide f.datatype allowed.datatype) room
      ∙ ap (pixel_bytes f pixels) (sym here)

  pub stored_delivered : delivered_at (frame_type f) 1 (pos 0) f.byteorder pixels (stored_steps all w f.configuration)
      (dim_of all (axis 0)) (dim_of all (axis 1)) (dim_of all (axis 2)) ≡ stored_pixels f pixels
  unfolding delivered_at stored_pixels stored_steps
  stored_delivered =
      let n = allowed.n in
      let c = allowed.configuration in
      let d1 = dim_of all (axis 0) in
      let d2 = dim_of all (axis 1) in
      let d3 = dim_of all (axis 2) in
      let g : ℕ → List ℕ = element (take f.n all) in
      joined_same d3 _ _ (λ k h3. joined_same d2 _ _ (λ j h2. joined_same d1 _ (λ (i : ℕ). g (i + d1 * (j + d2 * k))) (λ i h1. stored_element_lem i j k h1 h2 h3)))
      ∙ joined_rows_lem (λ (q : ℕ). joined d1 (λ (i : ℕ). g (i + d1 * q))) d2 d3
      ∙ joined_rows_lem g d1 (d2 * d3)
      ∙ ap (λ (x : ℕ). joined x g) (axes-count f.n f.configuration s.dim1 s.dim2 s.dim3 n.low n.high shape.second shape.third c.low c.high)
      ∙ ap (λ (ds : List ℕ). joined (product ds) (element ds)) shape.dims

  -- All of them stand inside the pixels.
  pub stored_inside : Inside3 (stored_steps all w f.configuration) (dim_of all (axis 0)) (dim_of all (axis 1)) (dim_of all (axis 2)) w (length pixels)
  unfolding stored_steps
  stored_inside =
      let c = allowed.configuration in
      let few = few_configurations f.n allowed.n in
      let p = order_permutes f.configuration c.low (omega (arith, c.high)) in
      let d = some_dims s.dim1 s.dim2 s.dim3 shape.small.some1 shape.small.some2 shape.small.some3 p in
      walk_inside s.dim1 s.dim2 s.dim3 w (axis 0) (axis 1) (axis 2) p (length pixels) d.0 d.1 d.2
      (omega (arith, whole, ap (λ (x : ℕ). x * w) product_is, mul_comm w (s.dim1 * (s.dim2 * s.dim3))))

  -- What reading them asks, and gives, at steps and dimensions that are those.
  pub record Walked (t : Steps) (n1 n2 n3 : ℕ) : Type 0 where
    pub inside : Inside3 t n1 n2 n3 w (length pixels)
    pub row : w * n1 ≤ length pixels
    pub room : w * n1 * n2 * n3 ≡ length pixels
    pub is : delivered_at (frame_type f) 1 (pos 0) f.byteorder pixels t n1 n2 n3 ≡ stored_pixels f pixels

  walked_along : Walked (stored_steps all w f.configuration) (dim_of all (axis 0)) (dim_of all (axis 1)) (dim_of all (axis 2))
  walked_along =
      let n = allowed.n in
      let c = allowed.configuration in
      let few = few_configurations f.n n in
      let p = order_permutes f.configuration c.low (omega (arith, c.high)) in
      let d = some_dims s.dim1 s.dim2 s.dim3 shape.small.some1 shape.small.some2 shape.small.some3 p in
      let d1 = dim_of all (axis 0) in
      let d2 = dim_of all (axis 1) in
      let d3 = dim_of all (axis 2) in
      let count = axes-count f.n f.configuration s.dim1 s.dim2 s.dim3 n.low n.high shape.second shape.third c.low c.high
      ∙ few_product s.dim1 s.dim2 s.dim3 f.n n.low n.high shape.second shape.third in
      let exact : w * d1 * d2 * d3 ≡ length pixels =
      mul_assoc (w * d1) d2 d3 ∙ mul_assoc w d1 (d2 * d3) ∙ ap (λ (x : ℕ). w * x) count ∙ mul_comm w (product all) ∙ sym whole in
      let one : 1 * 1 ≤ d2 * d3 = omega (arith, mul-le-mul_left d2 d.2, mul-le-mul_right 1 d.1) in
      record {
        inside = stored_inside;
        row = omega (arith, mul-le-mul_left (w * d1) one, mul-one (w * d1), mul_assoc (w * d1) d2 d3, exact);
        room = exact;
        is = stored_delivered;
      }

  pub walked : {t : Steps} {n1 n2 n3 v : ℕ} → v ≡ w → t ≡ stored_steps all v f.configuration → n1 ≡ dim_of all (axis 0)
      → n2 ≡ dim_of all (axis 1) → n3 ≡ dim_of all (axis 2) → Walked t n1 n2 n3
  walked {t} {n1} {n2} {n3} {v} ev et e1 e2 e3 =
      subst (λ (x : Steps). Walked x n1 n2 n3) (sym (et ∙ ap (λ (x : ℕ). stored_steps all x f.configuration) ev))
      (subst (λ (x : ℕ). Walked (stored_steps all w f.configuration) x n2 n3) (sym e1)
      (subst (λ (x : ℕ). Walked (stored_steps all w f.configuration) (dim_of all (axis 0)) x n3) (sym e2)
      (subst (λ (x : ℕ). Walked (stored_steps all w f.configuration) (dim_of all (axis 0)) (dim_of all (axis 1)) x) (sym e3) walked_along)))

-- How long the pixels as stored are, and what fills them.
module _ (f : Frame) (pixels : List ℕ) (whole : length pixels ≡ product (frame_dims f) * (frame_type f).width) where
  pub stored_whole : length (stored_pixels f pixels) ≡ length pixels
  stored_whole = stored_length f pixels ∙ sym whole

  pub data_is : (k : ℕ) → k ≡ padding (length pixels) → stored_pixels f pixels ++ replicate k 0 ≡ file_data f pixels
  unfolding file_data filled
  data_is k e = ap (λ (n : ℕ). stored_pixels f pixels ++ replicate n 0) (e ∙ ap padding (sym stored_whole))
