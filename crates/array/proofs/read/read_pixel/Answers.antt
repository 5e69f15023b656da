-- `array::read::read_pixel` meets its contract.
use mathlib.Core.Path.{sym, ap, ◌∙◌}
use Rattle.scan.proofs.Exits.{exits}
use Rattle.keyword.specs.Viewing.{viewed_outcome}
use Rattle.array.proofs.ReadLaws.{row_inside, no_block, no_description, array_is, array_valid, no_pixel, pixel_by}
use Rattle.array.proofs.read.read_pixel.Goals as goal

pub data_of-requires : goal.data_of-requires
data_of-requires c =
    row_inside _ _ _ (sym (ap (viewed_outcome _) c.in_ok-b.was) ∙ c.view.ensures)

pub sample_described-requires : goal.sample_described-requires
sample_described-requires c =
    array_valid _ _ _ (sym (ap (viewed_outcome _) c.in_ok-b.was) ∙ c.view.ensures)
    (sym c.in_ok-d.was ∙ c.describe_block.ensures) c.data_of.ensures

pub returns-in_err-b : goal.returns-in_err-b
returns-in_err-b c =
    exits _ c.from_residual.ensures.1
    ∙ no_pixel _ _ (no_block _ _ (sym (ap (viewed_outcome _) c.in_err-b.was) ∙ c.view.ensures)) _ _ _

pub returns-in_err-d : goal.returns-in_err-d
returns-in_err-d c =
    exits _ c.from_residual-in_err-d.ensures.1
    ∙ no_pixel _ _
    (no_description _ _ _ (sym (ap (viewed_outcome _) c.in_ok-b.was) ∙ c.view.ensures)
    (sym c.in_err-d.was ∙ c.describe_block.ensures)) _ _ _

pub returns : goal.returns
returns c =
    pixel_by _ _
    (array_is _ _ _ (sym (ap (viewed_outcome _) c.in_ok-b.was) ∙ c.view.ensures)
    (sym c.in_ok-d.was ∙ c.describe_block.ensures)) c.data_of.ensures _ _ _
    c.sample_described.ensures
