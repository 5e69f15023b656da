-- What the exit of a `?` returns: the error of the call.
use Rattle.std.specs.Prelude.{Err, IsErrAnd}
use Rattle.std.proofs.lemmas.Result.{err_from_is_err_and}
use mathlib.Core.Path.{◌≡◌, ap, ◌∙◌}
use Rattle.scan.specs.Outcome.{Outcome}
use Rattle.scan.specs.declared.Error.{Error}

pub exits : {A : Type 0} (r : Outcome A) {e : Error} → IsErrAnd r (λ (x : Error). x ≡ e) → r ≡ Err e
exits r h = let p = err_from_is_err_and r h in p.1 ∙ ap Err p.2
