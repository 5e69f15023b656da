-- `description::describe::describe` meets its contract.
use mathlib.Core.Path.{sym, ap, ◌∙◌}
use Rattle.scan.proofs.Exits.{exits}
use Rattle.keyword.specs.Viewing.{viewed_outcome}
use Rattle.description.proofs.DescribeLaws.{no_block, of_block}
use Rattle.description.proofs.describe.describe.Goals as goal

pub returns-in_err-b : goal.returns-in_err-b
returns-in_err-b c =
    exits _ c.from_residual.ensures.1 ∙ no_block _ _ (sym (ap (viewed_outcome _) c.in_err-b.was) ∙ c.view.ensures)

pub returns : goal.returns
returns c = of_block _ _ (sym (ap (viewed_outcome _) c.in_ok-b.was) ∙ c.view.ensures) c.describe_block.ensures
