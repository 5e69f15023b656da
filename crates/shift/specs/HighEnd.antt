-- Another way to shift an element of at most eight bytes: at the high end of 64 bits, for all widths alike.
use Rattle.std.specs.Prelude.{List, ℕ, ◌+◌, ◌*◌, ◌/◌, ◌%◌, ◌^◌, min, cond, reverse, ◌==◌, bit_xor}
use Rattle.raster.specs.Bytes.{low_first, low_bytes}
use Rattle.shift.specs.Shifting.{weight}
use Rattle.shift.specs.declared.shift.Addition.{Addition}
use Rattle.shift.specs.declared.shift.Shift.{Shift}

-- What `shift_by` does, done to 64 bits with an element of the weight k at their high end.
unfoldable pub shift_high : ℕ → Shift → ℕ → ℕ
shift_high k s v = bit_xor ((min s.high (bit_xor v s.inverted) + s.delta / k * k) % 2 ^ 64) s.inverted

-- 64 bits with their bytes reversed.
unfoldable pub swapped : ℕ → ℕ
swapped v = low_first (reverse (low_bytes 8 v))

-- An element that was read low byte first, in its own byte order at the high end of 64 bits; and from there back, to be
-- written low byte first. `k` is its weight.
unfoldable pub aligned_from : ℕ → ℕ → ℕ → ℕ
aligned_from order k x = cond (order == 1) (swapped x) (x * k)

unfoldable pub restored_to : ℕ → ℕ → ℕ → ℕ
restored_to asked k r = cond (asked == 1) (swapped r) (r / k)

-- `added`, made of these steps.
abbrev pub added_high : ℕ → Addition → List ℕ → List ℕ
added_high w a l =
    low_bytes w (restored_to a.asked (weight w) (shift_high (weight w) a.shift (aligned_from a.order (weight w) (low_first l))))
