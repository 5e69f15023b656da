-- Up to three numbers below a bound.
use mathlib.Core.List.{[], ◌∷◌}
use Prim.Native.Nat.{ℕ, zero, suc, ◌<◌}
use native.Mathlib.Omega.{arith}
use lib.ListN.{length, take, get_or, length-take}

pub three_below : (m n a b c : ℕ) → a < m → b < m → c < m → (i : ℕ) → i < length (take n (a ∷ b ∷ c ∷ []))
    → get_or (take n (a ∷ b ∷ c ∷ [])) i 0 < m
three_below m zero a b c p q r i h = absurd (omega (arith, h))
three_below m (suc n) a b c p q r zero h = p
three_below m (suc zero) a b c p q r (suc i) h = absurd (omega (arith, h))
three_below m (suc (suc n)) a b c p q r (suc zero) h = q
three_below m (suc (suc zero)) a b c p q r (suc (suc i)) h = absurd (omega (arith, h))
three_below m (suc (suc (suc n))) a b c p q r (suc (suc zero)) h = r
three_below m (suc (suc (suc n))) a b c p q r (suc (suc (suc i))) h = absurd (omega (arith, h, length-take {A = ℕ} n []))
