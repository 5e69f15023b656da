-- `description::numbers::numbers_of` meets its contract.
use mathlib.Core.Path.{sym, ◌∙◌}
use borrow.Author.Rules.{rules}
use mir.Syntax.{w64}
use mir.Val.{SFits}
use mir.ValLaws.{to_z-of_z}
use Rattle.scan.proofs.Exits.{exits}
use Rattle.description.proofs.DescribeLaws.{bad_configuration, bad_orientation, bad_offset, good_numbers}
use Rattle.description.proofs.numbers.numbers_of.Goals as goal

pub returns-in_err-range_field : goal.returns-in_err-range_field
returns-in_err-range_field c =
    exits _ c.from_residual.ensures.1 ∙ bad_configuration _ _ (sym c.in_err-range_field.was ∙ c.range_field.ensures)

pub returns-in_err-range_field-2 : goal.returns-in_err-range_field-2
returns-in_err-range_field-2 c =
    exits _ c.from_residual-in_err-range_field-2.ensures.1
    ∙ bad_orientation _ _ (sym c.in_ok-range_field.was ∙ c.range_field.ensures)
    (sym c.in_err-range_field-2.was ∙ c.range_field-2.ensures)

pub returns-in_err-value_offset : goal.returns-in_err-value_offset
returns-in_err-value_offset c =
    exits _ c.from_residual-in_err-value_offset.ensures.1
    ∙ bad_offset _ _ (sym c.in_ok-range_field.was ∙ c.range_field.ensures)
    (sym c.in_ok-range_field-2.was ∙ c.range_field-2.ensures)
    (sym c.in_err-value_offset.was ∙ c.value_offset.ensures)

pub returns : goal.returns
returns c =
    let fits : SFits w64 c.in_ok-value_offset.field-0 = search rules in
    good_numbers _ _ (sym c.in_ok-range_field.was ∙ c.range_field.ensures)
    (sym c.in_ok-range_field-2.was ∙ c.range_field-2.ensures)
    (sym c.in_ok-value_offset.was ∙ c.value_offset.ensures) (to_z-of_z w64 _ fits)
