-- What a call for C answers: a code, 0 for success, and numbers that the caller lends for the value and the position.
use Rattle.std.specs.Prelude.{ℕ, Ok, Err}
use Rattle.scan.specs.Outcome.{Outcome}

module _ {A : Type 0} where
  -- 0, or the number of the error.
  abbrev pub code_of : Outcome A → ℕ
  code_of (Ok x) = 0
  code_of (Err e) = e.code

  -- The value, or in an error what its room held.
  abbrev pub value_after : Outcome A → A → A
  value_after (Ok x) before = x
  value_after (Err e) before = before

  -- The position of the error, or in success what its room held.
  abbrev pub position_after : Outcome A → ℕ → ℕ
  position_after (Ok x) before = before
  position_after (Err e) before = e.position

  -- The same outcome with another value.
  abbrev pub with_value : {B : Type 0} → Outcome A → B → Outcome B
  with_value (Ok x) y = Ok y
  with_value (Err e) y = Err e
