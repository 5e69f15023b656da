-- Where a block's array stands in its file, and when its bytes there are those that delivery writes.
use Rattle.std.specs.Prelude.{◌≡◌, Bool, true, ◌&&◌, ◌||◌, List, ℕ, ◌+◌, ◌*◌, eqb, Ok, Err}
use Rattle.scan.specs.Outcome.{Outcome, require, ◌>>=◌, ◌>>◌}
use Rattle.scan.specs.Byte.{part_of}
use Rattle.keyword.specs.Keyword.{view_of}
use Rattle.raster.specs.Position.{product}
use Rattle.description.specs.Describe.{is_zero, description_in}
use Rattle.description.specs.Shape.{array_type, array_dims}
use Rattle.description.specs.declared.Description.{Description}
use Rattle.array.specs.Delivery.{is_order, array_in}
use Rattle.stored.specs.declared.StoredArray.{StoredArray}

-- An array is stored as it is delivered in the order asked for: "Delivered arrays have configuration 1"; no offset is added; and
-- its elements have the order asked for, or one byte.
unfoldable pub as_delivered : Description → ℕ → Bool
as_delivered d asked =
    eqb d.configuration 1 && (is_zero d.offset && (eqb d.byteorder asked || eqb (array_type d).width 1))

-- The array whose bytes start at an offset of the file: there are "Dims' product times width". 24 for a bad order code.
unfoldable pub stored_with : ℕ → Description → ℕ → Outcome StoredArray
stored_with offset d asked = do
  require (is_order asked) 24 0
  Ok (record {
    description = d;
    span = record { offset = offset; length = product (array_dims d) * (array_type d).width };
    delivered = as_delivered d asked;
  })

-- That of a block of a file: its bytes are the first after its header.
unfoldable pub stored_array : List ℕ → ℕ → ℕ → Outcome StoredArray
stored_array s block asked = do
  b ← view_of s block
  d ← description_in b
  stored_with (b.row.start + b.row.header) d asked

-- What an answer says about delivery: where the array is stored as it is delivered, the part of the file at its span is the array
-- delivered; an error is that of delivery.
abbrev pub Delivers : List ℕ → ℕ → ℕ → Outcome StoredArray → Type 0
Delivers s block asked (Ok a) = a.delivered ≡ true → array_in s block asked ≡ Ok (part_of s a.span)
Delivers s block asked (Err e) = array_in s block asked ≡ Err e
