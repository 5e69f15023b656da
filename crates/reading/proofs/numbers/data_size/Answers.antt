-- `reading::numbers::data_size` meets its contract.
use Rattle.std.proofs.Common.{ap, ◌∙◌}
use Rattle.blocks.specs.Reading.{number_or}
use Rattle.reading.proofs.SoughtLaws.{size_any, size_counting}
use Rattle.reading.proofs.numbers.data_size.Goals as goal

pub returns-then-kind-eq1 : goal.returns-then-kind-eq1
returns-then-kind-eq1 c =
    size_any _ _ c.if-kind-eq1.true (c.number_or.ensures ∙ ap (number_or 0 0) c.any_value.ensures)

pub returns-else-kind-eq1 : goal.returns-else-kind-eq1
returns-else-kind-eq1 c = size_counting _ _ c.if-kind-eq1.false c.counting_number.ensures
