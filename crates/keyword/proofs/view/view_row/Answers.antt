-- `keyword::view::view_row` meets its contract.
use mathlib.Core.Path.{sym, ap, ◌∙◌}
use Rattle.scan.proofs.Exits.{exits}
use Rattle.keyword.specs.Viewing.{viewed_outcome}
use Rattle.keyword.proofs.Views.{own_failed, general_failed, with_general, no_general}
use Rattle.keyword.proofs.view.view_row.Goals as goal

pub returns-in_err-own : goal.returns-in_err-own
returns-in_err-own c =
    ap (viewed_outcome _) (exits _ c.from_residual.ensures.1)
    ∙ own_failed _ _ _ (sym c.in_err-own.was ∙ c.header_at.ensures)

pub returns-in_err-header_at : goal.returns-in_err-header_at
returns-in_err-header_at c =
    ap (viewed_outcome _) (exits _ c.from_residual-in_err-header_at.ensures.1)
    ∙ general_failed _ _ _ (sym c.in_ok-own.was ∙ c.header_at.ensures)
    (sym c.shares.ensures ∙ c.if-shares.true)
    (sym c.in_err-header_at.was ∙ c.header_at-then-shares.ensures)

pub returns-in_ok-header_at : goal.returns-in_ok-header_at
returns-in_ok-header_at c =
    with_general _ _ _ (sym c.in_ok-own.was ∙ c.header_at.ensures)
    (sym c.shares.ensures ∙ c.if-shares.true)
    (sym c.in_ok-header_at.was ∙ c.header_at-then-shares.ensures)

pub returns-else-shares : goal.returns-else-shares
returns-else-shares c =
    no_general _ _ _ (sym c.in_ok-own.was ∙ c.header_at.ensures)
    (sym c.shares.ensures ∙ c.if-shares.false)
