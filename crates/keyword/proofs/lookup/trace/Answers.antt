-- `keyword::lookup::trace` meets its contract.
use Rattle.keyword.proofs.Lookups.{traced_own, traced_general, traced_nowhere}
use Rattle.keyword.proofs.lookup.trace.Goals as goal

pub returns-in-Some : goal.returns-in-Some
returns-in-Some c = traced_own _ _ _ c.value_in.ensures c.in-Some.is

pub returns-in-Some-general_value : goal.returns-in-Some-general_value
returns-in-Some-general_value c =
    traced_general _ _ _ c.value_in.ensures c.in_default.is c.general_value.ensures c.in-Some-general_value.is

pub returns-in-None : goal.returns-in-None
returns-in-None c =
    traced_nowhere _ _ _ c.value_in.ensures c.in_default.is c.general_value.ensures c.in-None.is
