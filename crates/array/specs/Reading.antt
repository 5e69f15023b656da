-- The array of a block and one pixel of it, once the block's description is known.
use Rattle.std.specs.Prelude.{List, ℕ, Ok}
use Rattle.scan.specs.Outcome.{Outcome, require, ◌>>◌}
use Rattle.raster.specs.declared.Pixel.{Pixel}
use Rattle.description.specs.declared.Description.{Description}
use Rattle.array.specs.Delivery.{delivered, is_order, is_index, pixel_at}

-- What `array_in` and `pixel_in` do last, with the bytes of the block's data.
unfoldable pub delivered_in : Description → List ℕ → ℕ → Outcome (List ℕ)
delivered_in d l asked = do
  require (is_order asked) 24 0
  Ok (delivered d asked l)

unfoldable pub sampled_in : Description → List ℕ → ℕ → ℕ → ℕ → Outcome Pixel
sampled_in d l i1 i2 i3 = do
  require (is_index d i1 i2 i3) 23 0
  Ok (pixel_at d l i1 i2 i3)
