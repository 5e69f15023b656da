-- One pixel as numbers that the caller lends: its class, and a number for each class.
use Rattle.std.specs.Prelude.{ℕ, Float, ℤ, Ok, Err}
use Rattle.scan.specs.Outcome.{Outcome}
use Rattle.raster.specs.declared.Pixel.{Pixel}
use Rattle.raster.specs.declared.Pixel.TheVariants.{Unsigned, Signed, Float32, Float64}

-- The class is 1 for an unsigned and 2 for a signed whole number, 3 for a 32-bit and 4 for a 64-bit float.
pub record Sample : Type 0 where
  pub class : ℕ
  pub unsigned : ℕ
  pub signed : ℤ
  pub float32 : Float
  pub float64 : Float

abbrev pub sample_of : ℕ → ℕ → ℤ → Float → Float → Sample
sample_of class unsigned signed float32 float64 =
    record { class = class; unsigned = unsigned; signed = signed; float32 = float32; float64 = float64 }

-- The pixel's class and the number of that class; the numbers of the other classes are what they were.
abbrev pub with_pixel : Pixel → Sample → Sample
with_pixel (Unsigned n) s = sample_of 1 n s.signed s.float32 s.float64
with_pixel (Signed z) s = sample_of 2 s.unsigned z s.float32 s.float64
with_pixel (Float32 x) s = sample_of 3 s.unsigned s.signed x s.float64
with_pixel (Float64 x) s = sample_of 4 s.unsigned s.signed s.float32 x

-- In an error all of them are what they were.
abbrev pub sample_after : Outcome Pixel → Sample → Sample
sample_after (Ok p) s = with_pixel p s
sample_after (Err e) s = s
