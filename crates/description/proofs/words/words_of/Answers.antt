-- `description::words::words_of` meets its contract.
use mathlib.Core.Path.{sym, ◌∙◌}
use Rattle.scan.proofs.Exits.{exits}
use Rattle.raster.specs.Types.{types, type_words, order_words, compression_words}
use Rattle.description.proofs.DescribeLaws.{bad_type, bad_order, bad_compression, good_words}
use Rattle.description.proofs.words.words_of.Goals as goal

pub returns-in_err-word_field : goal.returns-in_err-word_field
unfolding types type_words
returns-in_err-word_field c = exits _ c.from_residual.ensures.1 ∙ bad_type _ (sym c.in_err-word_field.was ∙ c.word_field.ensures)

pub returns-in_err-word_field-2 : goal.returns-in_err-word_field-2
unfolding types type_words order_words
returns-in_err-word_field-2 c =
    exits _ c.from_residual-in_err-word_field-2.ensures.1
    ∙ bad_order _ (sym c.in_ok-word_field.was ∙ c.word_field.ensures)
    (sym c.in_err-word_field-2.was ∙ c.word_field-2.ensures)

pub returns-in_err-word_field-3 : goal.returns-in_err-word_field-3
unfolding types type_words order_words compression_words
returns-in_err-word_field-3 c =
    exits _ c.from_residual-in_err-word_field-3.ensures.1
    ∙ bad_compression _ (sym c.in_ok-word_field.was ∙ c.word_field.ensures)
    (sym c.in_ok-word_field-2.was ∙ c.word_field-2.ensures)
    (sym c.in_err-word_field-3.was ∙ c.word_field-3.ensures)

pub returns : goal.returns
unfolding types type_words order_words compression_words
returns c =
    good_words _ (sym c.in_ok-word_field.was ∙ c.word_field.ensures)
    (sym c.in_ok-word_field-2.was ∙ c.word_field-2.ensures)
    (sym c.in_ok-word_field-3.was ∙ c.word_field-3.ensures)
