-- What holds of every error that a definition may answer, through its checks one after another.
use Rattle.std.specs.Prelude.{Option, None, Some, Ok, Err}
use Rattle.scan.specs.Outcome.{Outcome, error_at, present, require, ◌>>=◌, ◌>>◌}
use mathlib.Core.Path.{◌≡◌, ap, subst}
use mathlib.Core.Bool.{Bool, true, false}
use Prim.Native.Nat.{ℕ}
use Rattle.scan.specs.declared.Error.{Error}
use Rattle.scan.proofs.Cases.{ok-failed}

pub record Errors {A : Type 0} (P : Error → Type 0) (o : Outcome A) : Type 0 where
  pub hold : {e : Error} → o ≡ Err e → P e

module _ (P : Error → Type 0) {A : Type 0} where
  pub no_error : (x : A) → Errors P (Ok x)
  no_error x = record { hold = λ {e} p. absurd (ok-failed p) }

  pub one_error : (r : Error) → P r → Errors {A = A} P (Err r)
  one_error r h = record { hold = λ {e} p. let q : ◌≡◌ {A = Error} r e = cc in subst P q h }

  pub presence : (o : Option A) (code position : ℕ) → P (error_at code position) → Errors P (present o code position)
  presence (Some x) code position h = no_error x
  presence None code position h = one_error (error_at code position) h

  -- A check, then the rest.
  pub checks : (b : Bool) (code position : ℕ) (rest : Outcome A) → P (error_at code position) → Errors P rest
      → Errors P (require b code position >> rest)
  checks true code position rest h r = r
  checks false code position rest h r = one_error (error_at code position) h

  -- A step, then what is made of its value.
  pub steps : {B : Type 0} (o : Outcome A) (go : A → Outcome B) → Errors P o → ((x : A) → Errors P (go x)) → Errors P (o >>= go)
  steps (Ok x) go a b = b x
  steps (Err r) go a b = record { hold = λ {e} p. let q : ◌≡◌ {A = Error} r e = cc in a.hold {e = e} (ap Err q) }
