-- The number of the unit and the float tell real numbers apart: a caller that knows no enum loses nothing.
use mathlib.Core.Path.{◌≡◌, refl, sym, ap, ◌∙◌}
use Prim.Native.Nat.{ℕ, zero, suc}
use lib.Ieee.{Float}
use Rattle.reals.specs.Measure.{unit_of, float_of}
use Rattle.reals.specs.declared.Real.{Real}
use Rattle.reals.specs.declared.Real.TheVariants.{Number, Metres, Degrees, Radians}

-- The real number with a unit and a float.
abbrev real_with : ℕ → Float → Real
real_with zero x = Number x
real_with (suc zero) x = Metres x
real_with (suc (suc zero)) x = Degrees x
real_with (suc (suc (suc n))) x = Radians x

back : (r : Real) → r ≡ real_with (unit_of r) (float_of r)
back (Number x) = refl
back (Metres x) = refl
back (Degrees x) = refl
back (Radians x) = refl

pub told_apart : {r q : Real} → unit_of r ≡ unit_of q → float_of r ≡ float_of q → r ≡ q
told_apart {r} {q} e f =
    back r ∙ ap (λ (n : ℕ). real_with n (float_of r)) e ∙ ap (real_with (unit_of q)) f ∙ sym (back q)
