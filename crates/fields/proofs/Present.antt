-- A value that is there, or an error: what the outcome says.
use Rattle.std.specs.Prelude.{Option, None, Some, Ok, Err}
use Rattle.scan.specs.Outcome.{present}
use mathlib.Core.Path.{◌≡◌, refl, sym, ap}
use Prim.Native.Nat.{ℕ}
use Rattle.scan.specs.declared.Error.{Error}
use Rattle.scan.proofs.Cases.{ok-failed}
use Rattle.description.proofs.DescribedLaws.{same_ok}

module _ {A : Type 0} (code position : ℕ) where
  pub present_some : (o : Option A) {x : A} → present o code position ≡ Ok x → o ≡ Some x
  present_some (Some y) e = ap Some (same_ok e)
  present_some None e = absurd (ok-failed (sym e))

  pub present_none : (o : Option A) {x : Error} → present o code position ≡ Err x → o ≡ None
  present_none (Some y) e = absurd (ok-failed e)
  present_none None e = refl
