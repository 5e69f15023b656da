-- `keyword::read::whole_number` meets its contract.
use mathlib.Core.Path.{sym, ap, ◌∙◌}
use Rattle.scan.proofs.Exits.{exits}
use Rattle.keyword.specs.Answers.{located_bytes}
use Rattle.keyword.proofs.Reading.{number_unread, number_read}
use Rattle.keyword.proofs.read.whole_number.Goals as goal

pub returns-in_err-span : goal.returns-in_err-span
returns-in_err-span c =
    exits _ c.from_residual.ensures.1
    ∙ number_unread _ _ _ (sym (ap (located_bytes _) c.in_err-span.was) ∙ c.find.ensures.result_value_2)

pub returns : goal.returns
returns c =
    c.ok_or.ensures.value
    ∙ number_read _ _ _
    (sym (ap (located_bytes _) c.in_ok-span.was)
    ∙ c.find.ensures.result_value_2) _
    c.part.ensures _ c.whole_number.ensures
