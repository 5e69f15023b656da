-- `array::read::read_array` meets its contract.
use mathlib.Core.Path.{sym, ap, ◌∙◌}
use Rattle.scan.proofs.Exits.{exits}
use Rattle.text.proofs.Buffers.{of_equal}
use Rattle.keyword.specs.Viewing.{viewed_outcome}
use Rattle.array.proofs.ReadLaws.{unwritten, row_inside, no_block, no_description, array_is, array_valid, no_array, array_by}
use Rattle.array.proofs.read.read_array.Goals as goal

pub data_of-requires : goal.data_of-requires
data_of-requires c =
    row_inside _ _ _ (sym (ap (viewed_outcome _) c.in_ok-b.was) ∙ c.view.ensures)

pub deliver_described-requires : goal.deliver_described-requires
deliver_described-requires c =
    array_valid _ _ _ (sym (ap (viewed_outcome _) c.in_ok-b.was) ∙ c.view.ensures)
    (sym c.in_ok-d.was ∙ c.describe_block.ensures) c.data_of.ensures

pub returns-in_err-b : goal.returns-in_err-b
returns-in_err-b c =
    let both = unwritten (no_array _ _ (no_block _ _ (sym (ap (viewed_outcome _) c.in_err-b.was) ∙ c.view.ensures)) _) _ in
    record { result_value = exits _ c.from_residual.ensures.1 ∙ both.0; out_after = both.1 }

pub returns-in_err-d : goal.returns-in_err-d
returns-in_err-d c =
    let both = unwritten
    (no_array _ _
    (no_description _ _ _ (sym (ap (viewed_outcome _) c.in_ok-b.was) ∙ c.view.ensures)
    (sym c.in_err-d.was ∙ c.describe_block.ensures)) _) _ in
    record { result_value = exits _ c.from_residual-in_err-d.ensures.1 ∙ both.0; out_after = both.1 }

pub returns : goal.returns
returns c =
    let both = of_equal _ _ _
    (array_by _ _
    (array_is _ _ _ (sym (ap (viewed_outcome _) c.in_ok-b.was) ∙ c.view.ensures)
    (sym c.in_ok-d.was ∙ c.describe_block.ensures)) c.data_of.ensures _)
    (c.deliver_described.ensures.result_value, c.deliver_described.ensures.out_after) in record { result_value = both.0; out_after = both.1 }
