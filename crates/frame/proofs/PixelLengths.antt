-- How long the stored pixels of a frame are.
use mathlib.Core.Path.{◌≡◌, sym, ap, ◌∙◌}
use mathlib.Core.List.{List}
use Prim.Native.Nat.{ℕ, ◌+◌, ◌*◌}
use native.Mathlib.Omega.{arith}
use lib.ListN.{length, replicate, length-append, length-replicate}
use Rattle.raster.specs.Position.{product}
use Rattle.raster.proofs.Joined.{joined_length}
use Rattle.raster.proofs.RoundTrip.{length_bytes}
use Rattle.rendering.specs.Render.{padding, filled}
use Rattle.frame.specs.File.{frame_dims, frame_type, pixel_bytes, stored_pixels, file_data}
use Rattle.frame.specs.declared.Frame.{Frame}

-- A stored pixel is as wide as its type,
pub pixel_length : (f : Frame) (pixels : List ℕ) (p : ℕ) → length (pixel_bytes f pixels p) ≡ (frame_type f).width
unfolding pixel_bytes
pixel_length f pixels p = length_bytes f.byteorder (frame_type f).width _

-- and the stored pixels are as long as the array.
pub stored_length : (f : Frame) (pixels : List ℕ) → length (stored_pixels f pixels) ≡ product (frame_dims f) * (frame_type f).width
unfolding stored_pixels
stored_length f pixels = joined_length (frame_type f).width _ (λ k. pixel_length f pixels _) (product (frame_dims f))

-- The data of pixels that are as long as the array: as many bytes, and the filling.
pub data_length : (f : Frame) (pixels : List ℕ) → length pixels ≡ product (frame_dims f) * (frame_type f).width
    → length (file_data f pixels) ≡ length pixels + padding (length pixels)
unfolding file_data filled
data_length f pixels whole =
    let same : length (stored_pixels f pixels) ≡ length pixels = stored_length f pixels ∙ sym whole in
    let n = padding (length (stored_pixels f pixels)) in
    omega (arith, length-append (stored_pixels f pixels) (replicate n 0), length-replicate {A = ℕ} n 0, same, ap padding same)
