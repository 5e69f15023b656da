-- The shift that adds an offset, from the numbers that the code has.
use mathlib.Core.Path.{◌≡◌, sym, ap, ◌∙◌}
use mathlib.Core.Bool.{Bool, true, false, cond}
use Prim.Native.Nat.{ℕ, ◌+◌, ◌-◌, ◌*◌, ◌/◌, ◌^◌, ◌≤◌, ◌<◌, min}
use native.Mathlib.Nat.{mul_assoc, mul-le-mul_right, div-mul-le_self, div-eq_of_lt-le, mul-div_cancel, one-le-pow, zero-mul}
use native.Mathlib.Omega.{arith}
use lib.IntN.{ℤ, pos, nat_abs}
use lib.Signed.{lt_z}
use Rattle.raster.specs.Element.{half}
use Rattle.raster.proofs.RoundTrip.{two_halves}
use Rattle.shift.specs.Shifting.{weight, integer, Shifts}
use Rattle.shift.proofs.Sums.{flip_of}
use Rattle.shift.proofs.Scaling.{whole, sub_times, adds}

-- A quotient times its divisor.
pub times_under : (x k t : ℕ) → x ≤ t / k → x * k ≤ t
times_under x k t h = let a = mul-le-mul_right {m = x} {n = t / k} k h in let b = div-mul-le_self t k in omega arith

module _ (w : ℕ) (some : 0 < w) (few : w ≤ 8) where
  pub some_weight : 0 < weight w
  some_weight = one-le-pow (8 - w) 256 (omega arith)

  -- The w highest bytes of 64 ones, less a number there.
  ones_less : (f : ℕ) → f < 256 ^ w → (18446744073709551615 - f * weight w) / weight w ≡ 256 ^ w - 1 - f
  ones_less f h =
      let t = whole false w some few in
      let q = some_weight in
      let g = 256 ^ w - 1 - f in
      let e : 256 ^ w ≡ g + 1 + f = omega arith in
      let s : (g + 1 + f) * weight w ≡ 2 ^ 64 = ap (λ (x : ℕ). x * weight w) (sym e) ∙ t in
      div-eq_of_lt-le {k = g} (weight w) {m = 18446744073709551615 - f * weight w} (omega arith) (omega arith)

  most_is : (k : ℕ) → k ≡ weight w → 18446744073709551615 / k ≡ 256 ^ w - 1
  most_is k e =
      let p : 0 < 256 ^ w = one-le-pow w 256 (omega arith) in
      let z : 18446744073709551615 ≡ 18446744073709551615 - 0 * weight w = omega arith in
      (λ j. z j / e j) ∙ ones_less 0 p ∙ omega arith

  sign_is : (s : Bool) → cond s (2 ^ 63) 0 ≡ flip_of s w * weight w
  sign_is true =
      let h = two_halves w some in
      let t = whole false w some few in
      let a : 2 * (half w * weight w) ≡ 256 ^ w * weight w = sym (mul_assoc 2 (half w) (weight w)) ∙ ap (λ (x : ℕ). x * weight w) h in
      omega arith
  sign_is false = sym (zero-mul (weight w))

  sign_below : (s : Bool) → flip_of s w < 256 ^ w
  sign_below true = omega (arith, two_halves w some, one-le-pow w 256 (omega arith))
  sign_below false = one-le-pow w 256 (omega arith)

  inverted_is : (s down : Bool) (i : ℕ) → i ≡ cond down (18446744073709551615 - cond s (2 ^ 63) 0) (cond s (2 ^ 63) 0)
      → i / weight w ≡ cond down (256 ^ w - 1 - flip_of s w) (flip_of s w)
  inverted_is s true i e =
      ap (λ (x : ℕ). x / weight w) (e ∙ ap (λ (x : ℕ). 18446744073709551615 - x) (sign_is s)) ∙ ones_less (flip_of s w) (sign_below s)
  inverted_is s false i e = ap (λ (x : ℕ). x / weight w) (e ∙ sign_is s) ∙ mul-div_cancel (flip_of s w) some_weight

  pub shifts_by : (s : Bool) (offset : ℤ) (k m c i : ℕ) → k ≡ weight w → m ≡ 18446744073709551615 / k → c ≡ min (nat_abs offset) m
      → i ≡ cond (lt_z offset (pos 0)) (18446744073709551615 - cond s (2 ^ 63) 0) (cond s (2 ^ 63) 0)
      → Shifts (integer s) w offset (record { inverted = i; high = m * k - c * k; delta = c * k })
  shifts_by s offset k m c i ek em ec ei =
      let m' : m ≡ 256 ^ w - 1 = em ∙ most_is k ek in
      adds s w some few offset c _ (ec ∙ ap (min (nat_abs offset)) m') (inverted_is s (lt_z offset (pos 0)) i ei)
      ((λ j. m' j * ek j - c * ek j) ∙ sub_times (256 ^ w - 1) c (weight w)) (ap (λ (x : ℕ). c * x) ek)
