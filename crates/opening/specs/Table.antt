-- What a call that opens a file into a lent table of n rows is to do.
use Rattle.std.specs.Prelude.{◌≡◌, List, ℕ, ◌≤◌, IfOk}
use Rattle.scan.specs.Outcome.{Outcome, mapped}
use Rattle.blocks.specs.declared.Row.{Row}
use Rattle.opening.specs.Core.{rows_of, IsBounded}
use Rattle.opening.specs.declared.Opened.{Opened}

-- The answer is `o`, with rows that fit a table of n.
pub record Plans (o : Outcome (List Row)) (n : ℕ) (r : Outcome Opened) : Type 0 where
  pub says : mapped rows_of r ≡ o
  pub bounded : IfOk r IsBounded
  pub fits : IfOk r (λ (p : Opened). p.count ≤ n)
