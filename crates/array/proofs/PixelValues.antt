-- The value that bits stand for, by the class of their type.
use mathlib.Core.Path.{◌≡◌}
use mathlib.Core.Logic.{inl, inr}
use Prim.Native.Nat.{ℕ, ◌*◌, ◌^◌, ◌≤◌, ◌<◌}
use native.Mathlib.Omega.{arith}
use borrow.Author.Tests.{eq-eqb, ne_eqb}
use lib.Ieee.{Float, binary32, binary64, of_bits}
use lib.IntN.{ℤ}
use Rattle.raster.specs.Element.{half, signed_of}
use Rattle.raster.specs.Pixels.{pixel_of}
use Rattle.raster.specs.Strided.{Width}
use Rattle.raster.specs.declared.types.Class.{Class}
use Rattle.raster.specs.declared.types.Class.TheVariants.{Unsigned as unsigned, Signed as signed, Float as float}
use Rattle.raster.specs.declared.Pixel.TheVariants.{Unsigned, Signed, Float32, Float64}
use Rattle.raster.proofs.RoundTrip.{two_halves}

half_by : (w : ℕ) → Width w → half w ≤ 2 ^ 63
half_by w (inl e) = rw e (omega arith)
half_by w (inr (inl e)) = rw e (omega arith)
half_by w (inr (inr (inl e))) = rw e (omega arith)
half_by w (inr (inr (inr e))) = rw e (omega arith)

-- Half of the numbers is at most 2^63, and two halves are all.
pub half_fits : (w u h n : ℕ) → Width w → 0 < w → u ≡ w → h ≡ half u → n < 256 ^ w → (n < 2 * h) × (h ≤ 2 ^ 63)
half_fits w u h n width some eu eh below = rw (eh, eu) (omega (arith, two_halves w some), half_by w width)

pub four_fits : (w u n : ℕ) → u ≡ w → u ≡ 4 → n < 256 ^ w → n < 2 ^ 32
four_fits w u n e f h = let g : w ≡ 4 = omega arith in rw g at h

module _ {class : Class} (w n : ℕ) where
  pub pixel_unsigned : class ≡ unsigned → Unsigned n ≡ pixel_of class w n
  unfolding pixel_of
  pixel_unsigned e = rw e

  pub pixel_signed : (z : ℤ) → class ≡ signed → z ≡ signed_of (half w) n → Signed z ≡ pixel_of class w n
  unfolding pixel_of
  pixel_signed z e q = rw (e, q)

  pub pixel_narrow : (x : Float) → class ≡ float → w ≡ 4 → x ≡ of_bits binary32 n → Float32 x ≡ pixel_of class w n
  unfolding pixel_of
  pixel_narrow x e f q = rw (e, eq-eqb w 4 f, q)

  pub pixel_wide : (x : Float) → class ≡ float → (w ≡ 4 → ⊥) → x ≡ of_bits binary64 n → Float64 x ≡ pixel_of class w n
  unfolding pixel_of
  pixel_wide x e f q = rw (e, ne_eqb w 4 f, q)
