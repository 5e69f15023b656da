-- What fills to a multiple of 512.
use Prim.Native.Nat.{ℕ, ◌+◌, ◌-◌, ◌/◌, ◌%◌, ◌≤◌}
use native.Mathlib.Omega.{arith}
use Rattle.blocks.specs.Grammar.{MultipleOf}
use Rattle.rendering.specs.Render.{padding}

pub padding_small : (n : ℕ) → padding n ≤ 511
unfolding padding
padding_small n = omega arith

-- The fewest spaces make a multiple of 512.
pub padding_multiple : (n : ℕ) → MultipleOf 512 (n + padding n)
unfolding padding
padding_multiple n = ((n + (512 - n % 512) % 512) / 512, omega arith)
