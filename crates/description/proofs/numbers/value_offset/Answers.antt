-- `description::numbers::value_offset` meets its contract.
use mathlib.Core.Path.{ap, ◌∙◌}
use Rattle.keyword.specs.Viewing.{value_bytes}
use Rattle.keyword.proofs.Reading.{ok_or-present}
use Rattle.description.proofs.FieldLaws.{whole_absent, whole_there}
use Rattle.description.proofs.numbers.value_offset.Goals as goal

pub returns-in-None : goal.returns-in-None
returns-in-None c = whole_absent _ (ap (value_bytes _) c.in-None.is) _

pub returns-in-Some : goal.returns-in-Some
returns-in-Some c =
    whole_there _ (ap (value_bytes _) c.in-Some.is) _ c.part.ensures _
    (c.ok_or.ensures.value ∙ ok_or-present _ 18 7 ∙ rw c.whole_number.ensures)
