-- What a `Shift` does to an element, and when it adds an offset.
use Rattle.std.specs.Prelude.{◌≡◌, ℕ, ◌+◌, ◌-◌, ◌/◌, ◌%◌, ◌^◌, ◌<◌, min, Bool, cond, ◌⊎◌, List, ℤ, bit_xor}
use Rattle.raster.specs.Bytes.{number_of, bytes_of}
use Rattle.raster.specs.Element.{offset_bits}
use Rattle.raster.specs.declared.types.Class.{Class}
use Rattle.raster.specs.declared.types.Class.TheVariants.{Unsigned as unsigned, Signed as signed}
use Rattle.shift.specs.declared.shift.Shift.{Shift}

-- The weight of an element of w bytes at the high end of 64 bits.
abbrev pub weight : ℕ → ℕ
weight w = 256 ^ (8 - w)

-- Of a number of w bytes: the bits of `inverted` are inverted, what is above `high` is lowered to it, `delta` is added, and the
-- same bits are inverted back. Each field of the shift counts by what stands in its w highest bytes.
unfoldable pub shift_by : ℕ → Shift → ℕ → ℕ
shift_by w s n =
    bit_xor ((min (s.high / weight w) (bit_xor n (s.inverted / weight w)) + s.delta / weight w) % 256 ^ w) (s.inverted / weight w)

-- Of the bytes of an element.
unfoldable pub shifted_bytes : ℕ → Shift → ℕ → ℕ → List ℕ → List ℕ
shifted_bytes w s order asked l = bytes_of asked w (shift_by w s (number_of order l))

-- The widths of the elements that go by blocks.
abbrev pub Short : ℕ → Type 0
Short w = (w ≡ 1) ⊎ ((w ≡ 2) ⊎ (w ≡ 4))

-- The classes that an offset is added to.
abbrev pub integer : Bool → Class
integer is_signed = cond is_signed signed unsigned

-- The shift adds the offset, to every number of w bytes.
abbrev pub Shifts : Class → ℕ → ℤ → Shift → Type 0
Shifts class w offset s = (n : ℕ) → n < 256 ^ w → shift_by w s n ≡ offset_bits class w offset n
