-- What a step of a walk over statements gives, by what stood there.
use Rattle.std.proofs.Common.{◌≡◌, ℕ, ◌+◌, ◌<◌, ◌≤◌, List, length, None, Some, Result, Ok, Err, refl, sym, ap, ◌∙◌}
use Rattle.std.specs.Result.{result_ok, result_transpose}
use Rattle.scan.proofs.Cases.{none_some}
use Rattle.header.specs.Statements.{Next, malformed, statement_at}
use Rattle.header.specs.Walks.{Steps}
use Rattle.header.specs.declared.Malformed.{Malformed}
use Rattle.header.specs.declared.Statement.{Statement}
use Rattle.header.proofs.Leading.{statement-lies}

-- A statement is given where one stands, an error where it is malformed, nothing at the end.
pub one_given : (n : Next) {t : Statement} → result_transpose n ≡ Some (Ok t) → n ≡ Ok (Some t)
one_given (Ok (Some u)) e = cc
one_given (Ok None) e = cc
one_given (Err m) e = cc

pub error_given : (n : Next) {m : Malformed} → result_transpose n ≡ Some (Err m) → n ≡ Err malformed
error_given (Ok (Some u)) e = cc
error_given (Ok None) e = cc
error_given (Err m) e = refl

pub nothing_given : (n : Next) → result_transpose n ≡ None → n ≡ Ok None
nothing_given (Ok (Some u)) e = cc
nothing_given (Ok None) e = refl
nothing_given (Err m) e = cc

-- ---- A step of a walk over the bytes l, which are s

-- The statement t was given: it stands at an offset, and the walk goes on behind it.
pub record Given (s : List ℕ) (at : ℕ) (t : Statement) (s' : List ℕ) (next : ℕ) : Type 0 where
  pub here : statement_at s at ≡ Ok (Some t)
  pub bytes : s' ≡ s
  pub place : next ≡ t.end + 1
  pub inside : t.end < length s
  pub key_order : t.first ≤ t.equals
  pub value_order : t.equals < t.end

module _ {l s s' : List ℕ} {at next : ℕ} (same : l ≡ s) where
  pub given : {r : Result Statement Malformed} {t : Statement} → Steps l at (Some r) s' next → Some t ≡ result_ok r → Given s at t s' next
  given {r = Ok u} {t = t} w e =
      let q : u ≡ t = cc in
      let f : statement_at l at ≡ Ok (Some t) = one_given (statement_at l at) (sym w.gives ∙ ap (λ (x : Statement). Some (Ok x)) q) in
      let p : next ≡ t.end + 1 = rw f at w.place in
      let h : statement_at s at ≡ Ok (Some t) = rw same at f in
      let i = statement-lies s at t h in
      record { here = h; bytes = w.bytes ∙ same; place = p; inside = i.1; key_order = i.2; value_order = i.3 }
  given {r = Err m} w e = absurd (none_some (sym e))

  pub broken : {r : Result Statement Malformed} → Steps l at (Some r) s' next → None ≡ result_ok r → statement_at s at ≡ Err malformed
  broken {r = Ok u} w e = absurd (none_some e)
  broken {r = Err m} w e =
      let f : statement_at l at ≡ Err malformed = error_given (statement_at l at) (sym w.gives) in
      rw same at f

  pub ended : Steps l at None s' next → statement_at s at ≡ Ok None
  ended w =
      let f : statement_at l at ≡ Ok None = nothing_given (statement_at l at) (sym w.gives) in
      rw same at f
