-- Answers whose values are mapped.
use Rattle.std.specs.Prelude.{Ok, Err}
use Rattle.scan.specs.Outcome.{Outcome, ◌>>=◌}
use mathlib.Core.Path.{◌≡◌, refl, ap}
use Rattle.locality.specs.Moved.{map_outcome}

module _ {A : Type 0} (f : A → A) where
  -- What is made of a value makes the same of the mapped one.
  pub bind_map : {B : Type 0} (go on : A → Outcome B) → ((x : A) → go (f x) ≡ on x) → (o : Outcome A) → (map_outcome f o >>= go) ≡ (o >>= on)
  bind_map go on e (Ok x) = e x
  bind_map go on e (Err x) = refl

  -- Where it stays the value, so does the answer.
  pub map_same : ((x : A) → f x ≡ x) → (o : Outcome A) → map_outcome f o ≡ o
  map_same e (Ok x) = ap Ok (e x)
  map_same e (Err x) = refl
