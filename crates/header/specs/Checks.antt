-- The checks of a header's statements as the code answers them: errors 6, 7 and 8, without the statements.
use Rattle.std.specs.Prelude.{Bool, ◌||◌, List, map, ℕ, eqb}
use Rattle.scan.specs.Outcome.{Outcome, require, present, ◌>>=◌, ◌>>◌}
use Rattle.text.specs.Text.{every}
use Rattle.header.specs.Entry.{key}
use Rattle.header.specs.Statements.{statements_from, is_short, are_distinct}

-- `=` or `;`.
unfoldable pub separator : ℕ → Bool
separator b = eqb b 61 || eqb b 59

-- Of statements that are well formed, by whether all are short and whether their keys are distinct: error 7 before error 8.
abbrev pub rules_checked : Bool → Bool → ℕ → Outcome (Unit {0})
rules_checked short distinct start = require short 7 start >> require distinct 8 start

-- The statements from `from` on, in a list that ends where the body does, of the header at `start`: "each check for the
-- whole header before the next".
unfoldable pub statements_checked : List ℕ → ℕ → ℕ → Outcome (Unit {0})
statements_checked s from start = do
  ts ← present (statements_from s from) 6 start
  rules_checked (every (is_short s) ts) (are_distinct (map (key s) ts)) start
