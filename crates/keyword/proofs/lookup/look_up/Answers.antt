-- `keyword::lookup::look_up` meets its contract.
use Rattle.keyword.proofs.Lookups.{value_alone}
use Rattle.keyword.proofs.lookup.look_up.Goals as goal

pub returns : goal.returns
returns c =
    let both = value_alone _ _ _ c.trace.result c.trace.ensures in record { result_value = both.0; result_value_2 = both.1 }
