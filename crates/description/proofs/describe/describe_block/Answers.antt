-- `description::describe::describe_block` meets its contract.
use mathlib.Core.Path.{sym, ap, ◌∙◌}
use Rattle.scan.proofs.Exits.{exits}
use Rattle.description.specs.Answers.{measured_outcome}
use Rattle.description.proofs.DescribeLaws.{general_block, dims_read, bad_words, bad_dims, good_dims, bad_numbers, by_numbers}
use Rattle.description.proofs.DimLaws.{dims_small}
use Rattle.description.proofs.describe.describe_block.Goals as goal

pub returns-then-b-ne1 : goal.returns-then-b-ne1
returns-then-b-ne1 c = c.refuse.ensures ∙ general_block _ _ c.if-b-ne1.true

pub returns-in_err-words : goal.returns-in_err-words
returns-in_err-words c =
    exits _ c.from_residual.ensures.1
    ∙ bad_words _ _ c.if-b-ne1.false c.fields_of-fields.result c.fields_of-fields.ensures (sym c.in_err-words.was ∙ c.words_of.ensures)

pub returns-in_err-dims : goal.returns-in_err-dims
returns-in_err-dims c =
    exits _ c.from_residual-in_err-dims.ensures.1
    ∙ bad_dims _ _ c.if-b-ne1.false c.fields_of-fields.result c.fields_of-fields.ensures (sym c.in_ok-words.was ∙ c.words_of.ensures)
    (sym (ap measured_outcome c.in_err-dims.was) ∙ c.dims_of.ensures)

pub check_array-requires : goal.check_array-requires
check_array-requires c =
    dims_small _ (sym (dims_read _ _ c.if-b-ne1.false c.fields_of-fields.result c.fields_of-fields.ensures c.dims_of.ensures) ∙ ap measured_outcome c.in_ok-dims.was)

pub returns-in_err-numbers : goal.returns-in_err-numbers
returns-in_err-numbers c =
    good_dims _ _ c.if-b-ne1.false c.fields_of-fields.result c.fields_of-fields.ensures (sym c.in_ok-words.was ∙ c.words_of.ensures)
    (sym (ap measured_outcome c.in_ok-dims.was) ∙ c.dims_of.ensures)
    (exits _ c.from_residual-in_err-numbers.ensures.1
    ∙ bad_numbers _ _ _ _ _ c.configuration_count.ensures (sym c.in_err-numbers.was ∙ c.numbers_of.ensures))

pub returns : goal.returns
returns c =
    good_dims _ _ c.if-b-ne1.false c.fields_of-fields.result c.fields_of-fields.ensures (sym c.in_ok-words.was ∙ c.words_of.ensures)
    (sym (ap measured_outcome c.in_ok-dims.was) ∙ c.dims_of.ensures)
    (by_numbers _ _ _ _ _ c.configuration_count.ensures
    (sym c.in_ok-numbers.was ∙ c.numbers_of.ensures) c.origins_of.ensures c.check_array.ensures)
