-- The pixels read in the order in which they are stored.
use Rattle.std.specs.Prelude.{◌≡◌, List, ℕ, ◌+◌, ◌-◌, ◌*◌, take, get_or}
use Rattle.raster.specs.Axis.{Axis, forward, backward, order_of}
use Rattle.raster.specs.Position.{product, index_of, dim_of}
use Rattle.raster.specs.declared.stride.Steps.{Steps}

-- ---- Steps along the order of a configuration

-- Axis k of a configuration for three indices, counted from 0.
unfoldable pub axis_at : ℕ → ℕ → Axis
axis_at number k = get_or (order_of 3 number) k (forward 0)

-- How many bytes one more of an axis' index is on in the pixels, whose configuration is 1, with elements of w bytes.
unfoldable pub stride_of : List ℕ → ℕ → Axis → ℕ
stride_of dims w a = w * product (take (index_of a - 1) dims)

-- So many on, or back; and how far the first element of a backward axis is from the last.
unfoldable pub up_of : List ℕ → ℕ → Axis → ℕ
up_of dims w (forward n) = stride_of dims w (forward n)
up_of dims w (backward n) = 0

unfoldable pub down_of : List ℕ → ℕ → Axis → ℕ
down_of dims w (forward n) = 0
down_of dims w (backward n) = stride_of dims w (backward n)

unfoldable pub back_of : List ℕ → ℕ → Axis → ℕ
back_of dims w a = down_of dims w a * (dim_of dims a - 1)

-- An axis of so many elements, with these steps and this start.
abbrev pub Ran : List ℕ → ℕ → Axis → ℕ → ℕ → ℕ → ℕ → Type 0
Ran dims w a dim up down back =
    ((dim ≡ dim_of dims a) × (up ≡ up_of dims w a)) × ((down ≡ down_of dims w a) × (back ≡ back_of dims w a))

-- The steps along three axes.
unfoldable pub steps_along : List ℕ → ℕ → Axis → Axis → Axis → Steps
steps_along dims w a b c =
    record {
      at = back_of dims w a + back_of dims w b + back_of dims w c;
      up1 = up_of dims w a;
      down1 = down_of dims w a;
      up2 = up_of dims w b;
      down2 = down_of dims w b;
      up3 = up_of dims w c;
      down3 = down_of dims w c;
    }

-- Those of a configuration.
unfoldable pub stored_steps : List ℕ → ℕ → ℕ → Steps
stored_steps dims w number = steps_along dims w (axis_at number 0) (axis_at number 1) (axis_at number 2)
