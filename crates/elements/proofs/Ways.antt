-- Elements of one byte are the same in either order.
use mathlib.Core.Path.{◌≡◌, refl}
use mathlib.Core.Bool.{true, false}
use mathlib.Core.List.{List, [], ◌∷◌, reverse}
use Prim.Native.Nat.{ℕ, ◌≤◌}
use native.Mathlib.Omega.{arith}
use lib.ListN.{length, take, drop, length-take}
use Rattle.raster.specs.Strided.{turned, place, row_of}
use Rattle.raster.proofs.Joined.{joined_same}

-- One byte is its own reverse.
one : (l : List ℕ) → length l ≤ 1 → l ≡ reverse l
one [] h = refl
one (x ∷ []) h = refl
one (x ∷ y ∷ l) h = absurd (omega arith)

pub either_order : (w : ℕ) (s : List ℕ) (at up down n : ℕ) → w ≡ 1
    → row_of (turned false) w s at up down n ≡ row_of (turned true) w s at up down n
unfolding row_of
either_order w s at up down n e =
    joined_same n _ _ (λ i h. one (take w (drop (place at up down i) s)) (simp length-take (omega arith)))
