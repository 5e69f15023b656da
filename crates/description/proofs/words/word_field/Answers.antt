-- `description::words::word_field` meets its contract.
use mathlib.Core.Path.{ap}
use Rattle.keyword.specs.Viewing.{value_bytes}
use Rattle.description.proofs.FieldLaws.{word_absent, word_there}
use Rattle.description.proofs.words.word_field.Goals as goal

pub returns-in-None : goal.returns-in-None
returns-in-None c = word_absent _ (ap (value_bytes _) c.in-None.is) _ _

pub returns-in-Some : goal.returns-in-Some
returns-in-Some c =
    word_there _ (ap (value_bytes _) c.in-Some.is) _ c.part.ensures _ _ c.code_of.ensures c.ok_or.ensures.value
