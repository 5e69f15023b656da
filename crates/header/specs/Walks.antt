-- A walk over the statements of a body.
use Rattle.std.specs.Prelude.{◌≡◌, List, ℕ, ◌+◌, length, Option, None, Some, Result, Ok, Err}
use Rattle.std.specs.Result.{result_transpose}
use Rattle.header.specs.Statements.{Next, statement_at}
use Rattle.header.specs.declared.Malformed.{Malformed}
use Rattle.header.specs.declared.Statement.{Statement}

-- Where a walk stands after what stood at an offset; nothing follows what is malformed.
abbrev pub place_after : List ℕ → ℕ → Next → ℕ
place_after s at (Ok (Some t)) = t.end + 1
place_after s at (Ok None) = at
place_after s at (Err m) = length s

-- A step of a walk from an offset: what it gives, and where the walk stands then, in the same bytes.
pub record Steps (s : List ℕ) (at : ℕ) (r : Option (Result Statement Malformed)) (s' : List ℕ) (next : ℕ) : Type 0 where
  pub gives : r ≡ result_transpose (statement_at s at)
  pub bytes : s' ≡ s
  pub place : next ≡ place_after s at (statement_at s at)
