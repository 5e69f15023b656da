-- One pixel and the array delivered are one thing seen twice.
use Rattle.std.specs.Prelude.{Ok}
use mathlib.Core.Path.{◌≡◌, sym, ap, ◌∙◌}
use mathlib.Core.Bool.{true}
use mathlib.Core.List.{List}
use Prim.Native.Nat.{ℕ, ◌+◌, ◌*◌, ◌≤◌, ◌<◌}
use native.Mathlib.Nat.{mul-add, mul_assoc, mul_comm, suc-mul, mul-le-mul_right, add-zero}
use native.Mathlib.Omega.{arith}
use lib.ListN.{length, take, drop}
use lib.Seq.{take_all}
use Rattle.raster.specs.Bytes.{number_of, joined}
use Rattle.raster.specs.Pixels.{pixel_of}
use Rattle.raster.specs.Position.{product}
use Rattle.raster.specs.Strided.{Octets, place_of}
use Rattle.raster.proofs.Stored.{octets_part}
use Rattle.raster.proofs.Tables.{type_width_some}
use Rattle.description.specs.Shape.{array_type, array_dims}
use Rattle.description.specs.Valid.{ValidArray}
use Rattle.description.specs.declared.Description.{Description}
use Rattle.strides.proofs.RowLaws.{length_element}
use Rattle.array.specs.Delivery.{Array, stored_element, delivered_element, delivered, array_of, array_in, is_index, pixel_at, pixel_in}
use Rattle.array.proofs.DeliveryLaws.{array_steps, length-delivered_element, length_row, length_plane, length-delivered, stored_place, element_inside}
use Rattle.array.proofs.Pieces.{piece_part}
use Rattle.array.proofs.PixelLaws.{bits_delivered, index_inside}
use Rattle.array.proofs.ReadLaws.{array_seen, array_written}

-- ---- Where an element stands in the array delivered

fits_row : (i d w : ℕ) → i < d → i * w + w ≤ d * w
fits_row i d w h = omega (arith, suc-mul i w, mul-le-mul_right w h)

position : (w d1 d2 i1 i2 i3 : ℕ) → w * (i1 + d1 * (i2 + d2 * i3)) ≡ i3 * (d2 * (d1 * w)) + (i2 * (d1 * w) + i1 * w)
position w d1 d2 i1 i2 i3 =
    let first : w * (d1 * i2) ≡ i2 * (d1 * w) = rw (mul_comm w (d1 * i2), mul_comm d1 i2, mul_assoc i2 d1 w) in
    let last : w * (d1 * (d2 * i3)) ≡ i3 * (d2 * (d1 * w)) =
    rw (mul_comm w (d1 * (d2 * i3)), mul_comm d1 (d2 * i3), mul_comm d2 i3, mul_assoc (i3 * d2) d1 w, mul_assoc i3 d2 (d1 * w)) in
    omega (
      arith,
      mul-add w i1 (d1 * (i2 + d2 * i3)),
      ap (λ (x : ℕ). w * x) (mul-add d1 i2 (d2 * i3)),
      mul-add w (d1 * i2) (d1 * (d2 * i3)),
      mul_comm w i1,
      first,
      last,
    )

module _ (d : Description) (asked : ℕ) (l : List ℕ) (i1 i2 i3 : ℕ) (h1 : i1 < d.dim1) (h2 : i2 < d.dim2) (h3 : i3 < d.dim3) where
  -- The bytes of an element: index 1 runs fastest, index 3 slowest.
  pub element_delivered : let w = (array_type d).width in
      take w (drop (w * (i1 + d.dim1 * (i2 + d.dim2 * i3))) (delivered d asked l)) ≡ delivered_element d asked l i1 i2 i3
  unfolding delivered
  element_delivered =
      let w = (array_type d).width in
      let r = d.dim1 * w in
      let row : ℕ → List ℕ = λ (j2 : ℕ). joined d.dim1 (λ (j1 : ℕ). delivered_element d asked l j1 j2 i3) in
      let element : ℕ → List ℕ = λ (j1 : ℕ). delivered_element d asked l j1 i2 i3 in
      let in_row = fits_row i1 d.dim1 w h1 in
      let in-plane = fits_row i2 d.dim2 r h2 in
      let start : i1 * w + 0 ≡ i1 * w = add-zero (i1 * w) in
      ap (λ (p : ℕ). take w (drop p (delivered d asked l))) (position w d.dim1 d.dim2 i1 i2 i3)
      ∙ piece_part (d.dim2 * r) d.dim3 i3 _ (length_plane d asked l) h3 (i2 * r + i1 * w) w (omega arith)
      ∙ piece_part r d.dim2 i2 row (λ j2. length_row d asked l j2 i3) h2 (i1 * w) w (omega arith)
      ∙ ap (λ (p : ℕ). take w (drop p (row i2))) (sym start)
      ∙ piece_part w d.dim1 i1 element (λ j1. length-delivered_element d asked l j1 i2 i3) h1 0 w (omega arith)
      ∙ take_all w (element i1) (omega (arith, length-delivered_element d asked l i1 i2 i3))

-- ---- "One pixel" is the value of the bytes that delivery puts at its index, in whichever order they are asked for

pub pixel_delivered : (d : Description) (l : List ℕ) (asked i1 i2 i3 : ℕ) → ValidArray d (length l) → Octets l → is_index d i1 i2 i3 ≡ true
    → let w = (array_type d).width in
    pixel_at d l i1 i2 i3
    ≡ pixel_of (array_type d).class w (number_of asked (take w (drop (w * (i1 + d.dim1 * (i2 + d.dim2 * i3))) (delivered d asked l))))
unfolding pixel_at delivered_element
pixel_delivered d l asked i1 i2 i3 v octets index =
    let h = index_inside d i1 i2 i3 index in
    let w = (array_type d).width in
    let e = element_inside d (length l) v i1 i2 i3 h.0 h.1 h.2 in
    let place = stored_place d (length l) v l i1 i2 i3 h.0 h.1 h.2 in
    let p = place_of (array_steps d) i1 i2 i3 in
    let bytes : Octets (stored_element d l i1 i2 i3) = rw place (octets_part p w l octets) in
    let wide : length (stored_element d l i1 i2 i3) ≡ w = rw place (length_element w l p e) in
    ap (pixel_of (array_type d).class w)
    (sym (bits_delivered (array_type d) d.byteorder d.offset (stored_element d l i1 i2 i3) (type_width_some d.datatype)
    bytes wide asked)
    ∙ ap (number_of asked) (sym (element_delivered d asked l i1 i2 i3 h.0 h.1 h.2)))

-- ---- The same of what the calls on a file answer

module _ (s : List ℕ) (block asked : ℕ) (a : Array) (w : List ℕ) (e : array_of s block ≡ Ok a) (f : array_in s block asked ≡ Ok w) where
  -- "Delivery writes Dims' product times width bytes"
  pub length_of_array : length w ≡ product (array_dims a.description) * (array_type a.description).width
  length_of_array =
      let x = array_seen s block a e in
      rw (← array_written s block asked a w e f) (length-delivered a.description (length a.bytes) x.0 asked a.bytes)

  -- Each pixel of the array is the value of the bytes that were written at its index.
  pub pixel_of_array : Octets s → (i1 i2 i3 : ℕ) → is_index a.description i1 i2 i3 ≡ true
      → let d = a.description in
      let n = (array_type d).width in
      pixel_in s block i1 i2 i3
      ≡ Ok (pixel_of (array_type d).class n (number_of asked (take n (drop (n * (i1 + d.dim1 * (i2 + d.dim2 * i3))) w))))
  unfolding pixel_in
  pixel_of_array octets i1 i2 i3 index =
      let x = array_seen s block a e in
      rw (e, index, ← array_written s block asked a w e f)
      (ap Ok (pixel_delivered a.description a.bytes asked i1 i2 i3 x.0 (x.1 octets) index))
