-- `listing::lines::describe_row` meets its contract.
use mathlib.Core.Path.{sym, ap, ◌∙◌}
use Rattle.scan.proofs.Exits.{exits}
use Rattle.keyword.specs.Viewing.{viewed_outcome}
use Rattle.listing.proofs.RowLaws.{not_viewed, of_view}
use Rattle.listing.proofs.lines.describe_row.Goals as goal

pub returns-in_err-view : goal.returns-in_err-view
returns-in_err-view c =
    exits _ c.from_residual.ensures.1 ∙ not_viewed _ _ _ (sym (ap (viewed_outcome _) c.in_err-view.was) ∙ c.view_row.ensures)

pub returns : goal.returns
returns c = of_view _ _ _ (sym (ap (viewed_outcome _) c.in_ok-view.was) ∙ c.view_row.ensures) c.describe_block.ensures
