-- `edf_c::arrays::edf_stored_array` meets its contract.
use mathlib.Core.Path.{sym, ◌∙◌}
use Rattle.edf_c.proofs.Storing.{stored_error}
use Rattle.edf_c.proofs.arrays.edf_stored_array.Goals as goal

pub returns-in-Err-clause-delivered_at : goal.returns-in-Err-clause-delivered_at
returns-in-Err-clause-delivered_at c =
    λ z f. absurd (stored_error _ _ _ (sym c.in-Err.is ∙ c.stored_array.ensures.result_value) (sym c.put_error.ensures.code ∙ z))
