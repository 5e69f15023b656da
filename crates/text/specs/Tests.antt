-- What a test that is passed as a value says of a byte.
use Rattle.std.specs.Prelude.{◌≡◌, Bool, ℕ}
use Rattle.std.specs.Fn.{Shared}

-- Each call of the test answers what p does.
abbrev pub TestsAs : {F : Type 0} → Shared F (ℕ × Unit {0}) Bool → F → (ℕ → Bool) → Type 0
TestsAs g f p = (b : ℕ) (r : Bool) → g.post f (b, tt) r → r ≡ p b
