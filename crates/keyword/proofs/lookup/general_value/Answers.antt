-- `keyword::lookup::general_value` meets its contract.
use mathlib.Core.Path.{sym, ◌∙◌}
use Rattle.keyword.proofs.Lookups.{edf_key, no_general, in_general}
use Rattle.keyword.proofs.lookup.general_value.Goals as goal

pub returns-then-is_edf_key : goal.returns-then-is_edf_key
returns-then-is_edf_key c = edf_key _ _ _ (sym c.is_edf_key.ensures ∙ c.if-is_edf_key.true)

pub returns-in_err-b : goal.returns-in_err-b
returns-in_err-b c =
    rw c.from_residual.ensures (no_general _ _ _ (sym c.is_edf_key.ensures ∙ c.if-is_edf_key.false) c.in_err-b.was)

pub returns : goal.returns
returns c = in_general _ _ _ (sym c.is_edf_key.ensures ∙ c.if-is_edf_key.false) c.in_ok-b.was c.value_in.ensures
