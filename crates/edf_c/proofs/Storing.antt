-- No error of the call for a stored array has the code 0.
use Rattle.std.specs.Prelude.{Err}
use mathlib.Core.Path.{◌≡◌, sym, ap, ◌∙◌}
use mathlib.Core.Bool.{true}
use mathlib.Core.List.{List}
use Prim.Native.Nat.{ℕ}
use Rattle.scan.specs.declared.Error.{Error}
use Rattle.scan.proofs.Cases.{clash}
use Rattle.stored.specs.Stored.{stored_array}
use Rattle.edf.specs.Codes.{stored_codes, of-stored}
use Rattle.edf.proofs.CodeLaws.{stored_gives, no_zero}

pub stored_error : (s : List ℕ) (block order : ℕ) {e : Error} → Err e ≡ stored_array s block order → e.code ≡ 0 → ⊥
stored_error s block order {e} q z =
    let coded : stored_codes e.code ≡ true = (stored_gives s block order).hold (sym q) in
    clash (stored_codes 0) (ap stored_codes (sym z) ∙ coded) (no_zero stored_codes of-stored)
