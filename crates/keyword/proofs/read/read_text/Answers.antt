-- `keyword::read::read_text` meets its contract.
use mathlib.Core.Path.{sym, ap, ◌∙◌}
use Rattle.scan.proofs.Exits.{exits}
use Rattle.text.proofs.Buffers.{of_equal}
use Rattle.keyword.specs.Answers.{located_bytes}
use Rattle.keyword.proofs.Reading.{text_unread, text_is}
use Rattle.keyword.proofs.read.read_text.Goals as goal

pub returns-in_err-span : goal.returns-in_err-span
returns-in_err-span c =
    let both = text_unread _ _ _ (sym (ap (located_bytes _) c.in_err-span.was) ∙ c.find.ensures.result_value_2) _ in
    record { result_value = exits _ c.from_residual.ensures.1 ∙ both.0; out_after = both.1 }

pub returns : goal.returns
returns c =
    let both = of_equal _ _ _
    (text_is _ _ _
    (sym (ap (located_bytes _) c.in_ok-span.was)
    ∙ c.find.ensures.result_value_2) _
    c.part.ensures) (c.write_text.ensures.result_value, c.write_text.ensures.out_after) in record { result_value = both.0; out_after = both.1 }
