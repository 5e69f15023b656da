-- `writer::file::data_size` meets its contract.
use mathlib.Core.Path.{sym, ◌∙◌}
use Rattle.writer.proofs.CheckLaws.{size_unallowed, size_unfit, size_fit}
use Rattle.writer.proofs.file.data_size.Goals as goal

pub returns-then-not-arguments_allowed : goal.returns-then-not-arguments_allowed
returns-then-not-arguments_allowed c =
    c.failure.ensures ∙ size_unallowed _ _ _ (sym c.arguments_allowed.ensures ∙ c.if-not-arguments_allowed.true)

pub returns-then-not-parts_fit : goal.returns-then-not-parts_fit
returns-then-not-parts_fit c =
    c.failure-then-not-parts_fit.ensures ∙ size_unfit _ _ _ c.data_length-size.ensures
    (sym c.arguments_allowed.ensures ∙ c.if-not-arguments_allowed.false) (sym c.parts_fit.ensures ∙ c.if-not-parts_fit.true)

pub returns : goal.returns
returns c =
    size_fit _ _ _ c.data_length-size.ensures (sym c.arguments_allowed.ensures ∙ c.if-not-arguments_allowed.false)
    (sym c.parts_fit.ensures ∙ c.if-not-parts_fit.false)
