-- The array delivered, and one pixel of it.
use Rattle.std.specs.Prelude.{Bool, ◌&&◌, List, [], ◌∷◌, ℕ, ◌+◌, ◌*◌, leb, ltb, Ok}
use Rattle.scan.specs.Outcome.{Outcome, require, ◌>>=◌, ◌>>◌}
use Rattle.scan.specs.Byte.{bytes_at}
use Rattle.keyword.specs.Keyword.{View, view_of}
use Rattle.raster.specs.Bytes.{joined}
use Rattle.raster.specs.Element.{element_bits, element_bytes}
use Rattle.raster.specs.Pixels.{pixel_of}
use Rattle.raster.specs.Position.{stored_position}
use Rattle.raster.specs.declared.Pixel.{Pixel}
use Rattle.description.specs.Describe.{description_in}
use Rattle.description.specs.Shape.{array_type, array_dims, array_order}
use Rattle.description.specs.declared.Description.{Description}

-- The stored bytes of the element at an index, in the data of its block.
unfoldable pub stored_element : Description → List ℕ → ℕ → ℕ → ℕ → List ℕ
stored_element d l i1 i2 i3 =
    bytes_at l (record {
      offset = stored_position (array_dims d) (array_order d) (i1 ∷ i2 ∷ i3 ∷ []) * (array_type d).width;
      length = (array_type d).width;
    })

-- The element at an index, delivered in the order asked for.
unfoldable pub delivered_element : Description → ℕ → List ℕ → ℕ → ℕ → ℕ → List ℕ
delivered_element d asked l i1 i2 i3 =
    element_bytes (array_type d) d.byteorder d.offset asked (stored_element d l i1 i2 i3)

-- "Delivered arrays have configuration 1": index 1 runs fastest, index 3 slowest.
unfoldable pub delivered : Description → ℕ → List ℕ → List ℕ
delivered d asked l =
    joined d.dim3 (λ (i3 : ℕ). joined d.dim2 (λ (i2 : ℕ). joined d.dim1 (λ (i1 : ℕ). delivered_element d asked l i1 i2 i3)))

-- A block's array: its description, and the bytes of its data.
pub record Array : Type 0 where
  pub description : Description
  pub bytes : List ℕ

-- The data of a block: what follows its header.
abbrev pub data_of : List ℕ → View → List ℕ
data_of s b = bytes_at s (record { offset = b.row.start + b.row.header; length = b.row.size })

unfoldable pub array_of : List ℕ → ℕ → Outcome Array
array_of s block = do
  b ← view_of s block
  d ← description_in b
  Ok (record { description = d; bytes = data_of s b })

-- The code of a byte order.
unfoldable pub is_order : ℕ → Bool
is_order asked = leb 1 asked && leb asked 2

-- The bytes that delivery writes: "24 for a bad order code just before 22".
unfoldable pub array_in : List ℕ → ℕ → ℕ → Outcome (List ℕ)
array_in s block asked = do
  a ← array_of s block
  require (is_order asked) 24 0
  Ok (delivered a.description asked a.bytes)

-- "Its call takes three indices, those past N being 0 (else 23)": Dims past N are 1.
unfoldable pub is_index : Description → ℕ → ℕ → ℕ → Bool
is_index d i1 i2 i3 = ltb i1 d.dim1 && ltb i2 d.dim2 && ltb i3 d.dim3

-- The pixel at an index.
unfoldable pub pixel_at : Description → List ℕ → ℕ → ℕ → ℕ → Pixel
pixel_at d l i1 i2 i3 =
    pixel_of (array_type d).class (array_type d).width
    (element_bits (array_type d) d.byteorder d.offset (stored_element d l i1 i2 i3))

-- 23: "index outside".
unfoldable pub pixel_in : List ℕ → ℕ → ℕ → ℕ → ℕ → Outcome Pixel
pixel_in s block i1 i2 i3 = do
  a ← array_of s block
  require (is_index a.description i1 i2 i3) 23 0
  Ok (pixel_at a.description a.bytes i1 i2 i3)
