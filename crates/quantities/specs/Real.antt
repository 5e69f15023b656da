-- The value of a keyword as a real number: "The answer is a bare number, metres, degrees or radians, each carrying its 64-bit float. ..
-- Refusals: 18 for bad form, then 27 outside those bounds" (02, No. 2), after those of opening and 16.
use Rattle.std.specs.Prelude.{List, ℕ}
use Rattle.scan.specs.Outcome.{Outcome, ◌>>=◌}
use Rattle.keyword.specs.Keyword.{entry_of}
use Rattle.reals.specs.Real.{real_of}
use Rattle.reals.specs.declared.Real.{Real}

unfoldable pub real_in : List ℕ → ℕ → List ℕ → Outcome Real
real_in s block sought = do
  e ← entry_of s block sought
  real_of e.value
