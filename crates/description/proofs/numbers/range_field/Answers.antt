-- `description::numbers::range_field` meets its contract.
use mathlib.Core.Path.{ap}
use Rattle.keyword.specs.Viewing.{value_bytes}
use Rattle.description.proofs.FieldLaws.{range_absent, range_there}
use Rattle.description.proofs.numbers.range_field.Goals as goal

pub returns-in-None : goal.returns-in-None
returns-in-None c = range_absent _ (ap (value_bytes _) c.in-None.is) _ _

pub returns-in-Some : goal.returns-in-Some
returns-in-Some c =
    range_there _ (ap (value_bytes _) c.in-Some.is) _ c.part.ensures _ _ c.number_up_to.ensures
