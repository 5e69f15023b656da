-- `text::value::value_span` meets its contract: the three steps of `value_span`.
use Rattle.text.proofs.Trims.{first_fits, second_fits, third_step}
use Rattle.text.proofs.value.value_span.Goals as goal

pub without_opening_quote-requires : goal.without_opening_quote-requires
without_opening_quote-requires c = first_fits _ c.trimmed_span.ensures

pub without_closing_quote-requires : goal.without_closing_quote-requires
without_closing_quote-requires c = second_fits _ c.trimmed_span.ensures c.without_opening_quote.ensures

pub returns : goal.returns
returns c = third_step _ c.trimmed_span.ensures c.without_opening_quote.ensures c.without_closing_quote.ensures
