-- `description::describe::byte_count` meets its contract.
use native.Mathlib.Nat.{mul-le-mul}
use native.Mathlib.Omega.{arith}
use Rattle.description.proofs.describe.byte_count.Goals as goal

pub overflow_mul-result-3 : goal.overflow_mul-result-3
overflow_mul-result-3 c = omega (arith, mul-le-mul (mul-le-mul (mul-le-mul c.requires.0 c.requires.1) c.requires.2) c.requires.3)
