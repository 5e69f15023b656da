-- `description::dimensions::dim_of` meets its contract.
use mathlib.Core.Path.{sym, ap, ◌∙◌}
use Rattle.scan.proofs.Exits.{exits}
use Rattle.keyword.specs.Viewing.{value_bytes}
use Rattle.description.proofs.DimLaws.{dim_absent, dim_failed, dim_there}
use Rattle.description.proofs.dimensions.dim_of.Goals as goal

pub returns-in_default : goal.returns-in_default
returns-in_default c = dim_absent (ap (value_bytes _) c.in_default.is)

pub returns-in_err-n : goal.returns-in_err-n
returns-in_err-n c =
    exits _ c.from_residual.ensures.1
    ∙ dim_failed (ap (value_bytes _) c.in-Some.is) _ c.part.ensures (sym c.in_err-n.was ∙ c.number_up_to.ensures)

pub returns : goal.returns
returns c = dim_there (ap (value_bytes _) c.in-Some.is) _ c.part.ensures (sym c.in_ok-n.was ∙ c.number_up_to.ensures)
