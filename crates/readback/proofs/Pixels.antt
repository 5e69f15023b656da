-- A written file delivers the pixels that it was written from: all of them, and each one by its index.
use mathlib.Core.Path.{◌≡◌, refl, sym, ap, ◌∙◌}
use mathlib.Core.List.{List, [], ◌∷◌}
use Prim.Native.Nat.{ℕ, zero, suc, ◌+◌, ◌*◌, ◌≤◌, ◌<◌}
use native.Mathlib.Nat.{add-zero, mul-zero, mul-one, suc-mul, mul-le-mul_right}
use native.Mathlib.Omega.{arith}
use lib.ListN.{length, take, drop, get_or, length-take, length-drop}
use Rattle.scan.specs.Byte.{bytes_at}
use Rattle.raster.specs.Axis.{order_of}
use Rattle.raster.specs.Bytes.{number_of, joined}
use Rattle.raster.specs.Pixels.{pixel_of}
use Rattle.raster.specs.Position.{product, stored_position, linear_position}
use Rattle.raster.proofs.Inverse.{position_within, stored_back}
use Rattle.raster.proofs.Joined.{joined_piece, joined_same, joined_rows_lem, joined_list}
use Rattle.raster.specs.Strided.{Octets}
use Rattle.raster.proofs.Stored.{octets_part, bits_back, bytes_back}
use Rattle.description.specs.Shape.{array_dims}
use Rattle.array.specs.Delivery.{stored_element, delivered_element, delivered, pixel_at}
use Rattle.frame.specs.File.{frame_dims, frame_type, pixel_bytes, stored_pixels, file_data}
use Rattle.rendering.specs.Render.{filled}
use Rattle.frame.specs.declared.Frame.{Frame}
use Rattle.frame.proofs.Allowed.{Within, Writes, dims_length}
use Rattle.frame.proofs.Codes.{type_wide}
use Rattle.frame.proofs.PixelLengths.{pixel_length}
use Rattle.frame.proofs.ShapeLaws.{below}
use Rattle.readback.specs.Described.{description_for}
use Rattle.readback.proofs.Keywords.{Dims, one, two, three}
use Rattle.readback.proofs.Written.{dims_shape}

-- ---- Three Dims, those past the last 1

abbrev dim : List ℕ → ℕ → ℕ
dim ds k = get_or ds k 1

-- The Dims of the description are those of the frame.
dims_again : (n a b c : ℕ) → Within 1 3 n
    → take n (dim (take n (a ∷ b ∷ c ∷ [])) 0 ∷ dim (take n (a ∷ b ∷ c ∷ [])) 1 ∷ dim (take n (a ∷ b ∷ c ∷ [])) 2 ∷ []) ≡ take n (a ∷ b ∷ c ∷ [])
dims_again zero a b c h = absurd (omega (arith, h.low))
dims_again (suc zero) a b c h = refl
dims_again (suc (suc zero)) a b c h = refl
dims_again (suc (suc (suc zero))) a b c h = refl
dims_again (suc (suc (suc (suc n)))) a b c h = absurd (omega (arith, h.high))

product_three : {ds : List ℕ} → Dims ds → product ds ≡ dim ds 0 * (dim ds 1 * dim ds 2)
unfolding product
product_three (one a) = refl
product_three (two a b) = refl
product_three (three a b c) = rw (mul-one c)

-- An index inside them, and its position where index 1 runs fastest.
pub record Inside (ds : List ℕ) (i1 i2 i3 : ℕ) : Type 0 where
  pub first : i1 < get_or ds 0 1
  pub second : i2 < get_or ds 1 1
  pub third : i3 < get_or ds 2 1

abbrev pub position_in : List ℕ → ℕ → ℕ → ℕ → ℕ
position_in ds i1 i2 i3 = i1 + get_or ds 0 1 * (i2 + get_or ds 1 1 * i3)

linear_three : {ds : List ℕ} → Dims ds → (i1 i2 i3 : ℕ) → Inside ds i1 i2 i3
    → linear_position ds (take (length ds) (i1 ∷ i2 ∷ i3 ∷ [])) ≡ position_in ds i1 i2 i3
unfolding linear_position
linear_three (one a) i1 i2 i3 h =
    let second : i2 ≡ 0 = omega (arith, h.second) in
    let third : i3 ≡ 0 = omega (arith, h.third) in
    rw (second, third)
linear_three (two a b) i1 i2 i3 h = let third : i3 ≡ 0 = omega (arith, h.third) in rw third
linear_three (three a b c) i1 i2 i3 h = rw (mul-zero c, add-zero i3)

position_below : {ds : List ℕ} → Dims ds → (i1 i2 i3 : ℕ) → Inside ds i1 i2 i3 → position_in ds i1 i2 i3 < product ds
position_below {ds} d i1 i2 i3 h =
    rw (product_three d) (below i1 (dim ds 0) _ _ h.first (below i2 (dim ds 1) i3 (dim ds 2) h.second h.third))

index_inside : (ds : List ℕ) (n i1 i2 i3 : ℕ) → n ≤ 3 → Inside ds i1 i2 i3 → (k : ℕ) → k < n → get_or (i1 ∷ i2 ∷ i3 ∷ []) k 0 < get_or ds k 1
index_inside ds n i1 i2 i3 few h zero l = h.first
index_inside ds n i1 i2 i3 few h (suc zero) l = h.second
index_inside ds n i1 i2 i3 few h (suc (suc zero)) l = h.third
index_inside ds n i1 i2 i3 few h (suc (suc (suc k))) l = absurd (omega arith)

-- ---- The elements

-- The bytes of element p of the pixels.
abbrev pub pixel : Frame → List ℕ → ℕ → List ℕ
pixel f pixels p = bytes_at pixels (record { offset = p * (frame_type f).width; length = (frame_type f).width })

module _ {f : Frame} {title pixels s : List ℕ} (w : Writes f title pixels s) (octets : Octets pixels) where
  abbrev dims : List ℕ
  dims = frame_dims f

  whole : length dims ≡ f.n
  whole = dims_length w.allowed

  -- Where an element is stored, its pixel stands.
  stored_is : (i1 i2 i3 : ℕ) → Inside dims i1 i2 i3
      → stored_element (description_for f) (file_data f pixels) i1 i2 i3 ≡ pixel_bytes f pixels (position_in dims i1 i2 i3)
  unfolding stored_element file_data filled stored_pixels
  stored_is i1 i2 i3 h =
      let same : array_dims (description_for f) ≡ dims = dims_again f.n f.dim1 f.dim2 f.dim3 w.allowed.n in
      let inside = index_inside dims f.n i1 i2 i3 w.allowed.n.high h in
      let p = stored_position dims (order_of f.n f.configuration) (i1 ∷ i2 ∷ i3 ∷ []) in
      rw same
      (joined_piece (frame_type f).width _ (λ k. pixel_length f pixels _) (product dims) p _
      (position_within f.n f.configuration dims (i1 ∷ i2 ∷ i3 ∷ []) whole inside)
      ∙ ap (λ (l : List ℕ). pixel_bytes f pixels (linear_position dims l))
      (stored_back f.n f.configuration dims (i1 ∷ i2 ∷ i3 ∷ []) whole inside (omega (arith, w.allowed.n.high)))
      ∙ ap (pixel_bytes f pixels) (rw whole at (linear_three (dims_shape w) i1 i2 i3 h)))

  -- A pixel is as wide as its type.
  whole_pixel : (p : ℕ) → p < product dims → length (pixel f pixels p) ≡ (frame_type f).width
  whole_pixel p h =
      omega (
        arith,
        length-take (frame_type f).width (drop (p * (frame_type f).width) pixels),
        length-drop (p * (frame_type f).width) pixels,
        w.whole,
        suc-mul p (frame_type f).width,
        mul-le-mul_right (frame_type f).width h,
      )

  module _ (i1 i2 i3 : ℕ) (h : Inside dims i1 i2 i3) where
    abbrev here : List ℕ
    here = pixel f pixels (position_in dims i1 i2 i3)

    here_octets : Octets here
    here_octets = octets_part (position_in dims i1 i2 i3 * (frame_type f).width) (frame_type f).width pixels octets

    here_wide : length here ≡ (frame_type f).width
    here_wide = whole_pixel (position_in dims i1 i2 i3) (position_below (dims_shape w) i1 i2 i3 h)

    element_is : delivered_element (description_for f) 1 (file_data f pixels) i1 i2 i3 ≡ here
    unfolding delivered_element pixel_bytes
    element_is =
        rw (stored_is i1 i2 i3 h)
        (bytes_back (frame_type f) f.byteorder here here_octets here_wide (type_wide f.datatype w.allowed.datatype))

    -- One pixel is the value of its bytes.
    pub pixel_is : pixel_at (description_for f) (file_data f pixels) i1 i2 i3
        ≡ pixel_of (frame_type f).class (frame_type f).width (number_of 1 (pixel f pixels (position_in (frame_dims f) i1 i2 i3)))
    unfolding pixel_at pixel_bytes
    pixel_is =
        rw (stored_is i1 i2 i3 h)
        (ap (pixel_of (frame_type f).class (frame_type f).width)
        (bits_back (frame_type f) f.byteorder here here_octets here_wide (type_wide f.datatype w.allowed.datatype)))

  -- ---- All of them

  pub delivered_is : delivered (description_for f) 1 (file_data f pixels) ≡ pixels
  unfolding delivered
  delivered_is =
      joined_same (dim dims 2) _ _ (λ i3 h3. joined_same (dim dims 1) _ _ (λ i2 h2. joined_same (dim dims 0) _ (λ (i1 : ℕ). pixel f pixels (position_in dims i1 i2 i3))
      (λ i1 h1. element_is i1 i2 i3 (record { first = h1; second = h2; third = h3 }))))
      ∙ joined_rows_lem (λ (q : ℕ). joined (dim dims 0) (λ (i1 : ℕ). pixel f pixels (i1 + dim dims 0 * q))) (dim dims 1) (dim dims 2)
      ∙ joined_rows_lem (pixel f pixels) (dim dims 0) (dim dims 1 * dim dims 2)
      ∙ ap (λ (n : ℕ). joined n (pixel f pixels)) (sym (product_three (dims_shape w)))
      ∙ joined_list (frame_type f).width (product dims) pixels w.whole
