-- The rule for letters: a byte between the ends of the alphabet becomes the letter 32 above it.
use mathlib.Core.Bool.{cond, ◌&&◌}
use Prim.Native.Nat.{ℕ, ◌+◌}
use lib.Dec.{leb}

-- A byte from `A`, 65, to `Z`, 90, becomes the letter 32 above it, which is the same letter small; every other byte stays.
unfoldable pub by_rule : ℕ → ℕ
by_rule b = cond (leb 65 b && leb b 90) (b + 32) b
