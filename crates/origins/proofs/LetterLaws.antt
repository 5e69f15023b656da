-- Letters and numbers tell origins apart.
use mathlib.Core.Path.{◌≡◌, refl, sym, ap}
use Prim.Native.Nat.{ℕ}
use native.Mathlib.Omega.{arith}
use Rattle.keyword.specs.declared.Origin.{Origin}
use Rattle.keyword.specs.declared.Origin.TheVariants.{Own, General, Default}
use Rattle.origins.specs.Letter.{letter_of, number_of}

-- ---- The three differ

pub own_general : Own ≡ General → ⊥
own_general e = omega (arith, ap number_of e)

pub own_default : Own ≡ Default → ⊥
own_default e = omega (arith, ap number_of e)

pub general_default : General ≡ Default → ⊥
general_default e = omega (arith, ap number_of e)

-- ---- What differs on the three tells them apart

module _ (f : Origin → ℕ) (h : f Own ≡ f General → ⊥) (k : f Own ≡ f Default → ⊥) (l : f General ≡ f Default → ⊥) where
  apart : (a b : Origin) → f a ≡ f b → a ≡ b
  apart Own Own e = refl
  apart Own General e = absurd (h e)
  apart Own Default e = absurd (k e)
  apart General Own e = absurd (h (sym e))
  apart General General e = refl
  apart General Default e = absurd (l e)
  apart Default Own e = absurd (k (sym e))
  apart Default General e = absurd (l (sym e))
  apart Default Default e = refl

pub one_letter : (a b : Origin) → letter_of a ≡ letter_of b → a ≡ b
one_letter = apart letter_of (λ e. omega (arith, e)) (λ e. omega (arith, e)) (λ e. omega (arith, e))

pub one_number : (a b : Origin) → number_of a ≡ number_of b → a ≡ b
one_number = apart number_of (λ e. omega (arith, e)) (λ e. omega (arith, e)) (λ e. omega (arith, e))
