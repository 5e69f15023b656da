-- What the float of a real number is: the written number rounded once. The exact number is coefficient * numerator / denominator, two
-- whole numbers.
use mathlib.Core.Path.{◌≡◌, refl, sym, ap, ◌∙◌, subst}
use mathlib.Core.List.{List}
use Prim.Native.Nat.{ℕ, ◌*◌, ◌≤◌}
use lib.Dec.{T}
use lib.IntN.{pos}
use lib.Ieee.{Float, fin, binary64}
use lib.Ieee.Scale.{finite}
use Rattle.scaling.specs.Limits.{coefficient_limit}
use Rattle.scaling.specs.Nearest.{Nearest, Halfway, IsEven}
use Rattle.scaling.specs.Scale.{Holds, numerator, denominator, scaled}
use Rattle.scaling.proofs.ScaledLaws as laws
use Rattle.reals.specs.Form.{IsReal}
use Rattle.reals.specs.Measure.{measured_in, float_of}
use Rattle.reals.specs.Numeral.{Numeral}
use Rattle.reals.specs.declared.Measure.{Measure}
use Rattle.reals.specs.declared.Measure.TheVariants.{Bare, Metres, Degrees, Radians}
use Rattle.reals.specs.declared.Real.{Real}

value_in_lem : (m : Measure) (x : Float) → float_of (measured_in m x) ≡ x
value_in_lem Bare x = refl
value_in_lem Metres x = refl
value_in_lem Degrees x = refl
value_in_lem Radians x = refl

module _ {l : List ℕ} {r : Real} (h : IsReal l r) where
  abbrev x : Numeral
  x = h.numeral

  pub value-scaled : float_of r ≡ scaled x.negative x.coefficient x.power
  value-scaled = ap float_of h.value ∙ value_in_lem x.measure (scaled x.negative x.coefficient x.power)

  -- It is finite,
  pub value_finite : T (finite (float_of r))
  value_finite =
      subst (λ (y : Float). T (finite y)) (sym value-scaled)
      (laws.scaled_finite x.negative x.coefficient x.power h.bounds.coefficient h.bounds.power)

  -- no 64-bit float is nearer to the written number,
  pub value-nearest : Nearest binary64 (float_of r) (x.coefficient * numerator x.power) (denominator x.power)
  value-nearest =
      subst (λ (y : Float). Nearest binary64 y (x.coefficient * numerator x.power) (denominator x.power)) (sym value-scaled)
      (laws.scaled_near x.negative x.coefficient x.power h.bounds.coefficient h.bounds.power)

  -- of two neighbours that are just as near it is the even one,
  pub value_even : {q j : ℕ} → Halfway binary64 (x.coefficient * numerator x.power) (denominator x.power) q j
      → IsEven binary64 (float_of r) x.negative q j
  value_even {q} {j} half =
      subst (λ (y : Float). IsEven binary64 y x.negative q j) (sym value-scaled)
      (laws.scaled_even x.negative x.coefficient x.power h.bounds.coefficient h.bounds.power half)

  -- a whole number up to 9,007,199,254,740,992 is that number, with its sign,
  pub value_exact : (n : ℕ) → n ≤ coefficient_limit → x.coefficient * numerator x.power ≡ n * denominator x.power
      → Holds (float_of r) x.negative n
  value_exact n small e =
      subst (λ (y : Float). Holds y x.negative n) (sym value-scaled) (laws.exact x.negative x.coefficient x.power n small e)

  -- and zero keeps its sign.
  pub value-zero : x.coefficient ≡ 0 → float_of r ≡ fin x.negative 0 (pos 0)
  value-zero e =
      value-scaled ∙ ap (λ (c : ℕ). scaled x.negative c x.power) e ∙ laws.zeros x.negative x.power
