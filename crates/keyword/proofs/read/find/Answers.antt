-- `keyword::read::find` meets its contract.
use mathlib.Core.Path.{sym, ap, ◌∙◌}
use Rattle.scan.proofs.Exits.{exits}
use Rattle.keyword.specs.Answers.{located_bytes}
use Rattle.keyword.specs.Viewing.{viewed_outcome}
use Rattle.keyword.proofs.Reading.{no_view, located}
use Rattle.keyword.proofs.read.find.Goals as goal

pub returns-in_err-b : goal.returns-in_err-b
returns-in_err-b c =
    let same = exits _ c.from_residual.ensures.1 in
    let both = no_view _ _ _ (sym (ap (viewed_outcome _) c.in_err-b.was) ∙ c.view.ensures) in
    record { result_value = same ∙ both.0; result_value_2 = ap (located_bytes _) same ∙ both.1 }

pub returns : goal.returns
returns c =
    let both = located _ _ _ _
    (sym (ap (viewed_outcome _) c.in_ok-b.was) ∙ c.view.ensures) _
    (c.look_up.ensures.result_value, c.look_up.ensures.result_value_2) in
    record { result_value = c.ok_or.ensures.value ∙ both.0; result_value_2 = ap (located_bytes _) c.ok_or.ensures.value ∙ both.1 }
