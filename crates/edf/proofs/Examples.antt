-- The examples that 01 marks P ("Examples both sides"), as one table under one statement, proved by computing; and a table for the real
-- numbers of 02, No. 2, both sides of each bound.
use Rattle.std.specs.Prelude.{Ok}
use Rattle.scan.specs.Outcome.{refused}
use mathlib.Core.Path.{refl}
use mathlib.Core.List.{List, [], ◌∷◌}
use lib.IntN.{pos, negsuc}
use lib.Ieee.{binary64, of_bits, round, neg}
use Rattle.scan.specs.Byte.{ascii, same}
use Rattle.scan.specs.Search.{first_from, first_with}
use Rattle.text.specs.Escapes.{letter, letters, lookup_byte, meaning, meanings}
use Rattle.text.specs.Number.{digit, digits_from, natural, whole_number}
use Rattle.text.specs.Text.{escaped_body, quoted_text, text_of, unescaped_after, without_line_breaks}
use Rattle.text.specs.Value.{leading, trimmed_end, trimmed, without_opening_quote, without_closing_quote, value_span, value_of}
use Rattle.text.specs.Whitespace.{whitespace, visible_from}
use Rattle.header.specs.Frame.{opening_at, frame_at, header_at}
use Rattle.blocks.specs.Judging.{block_at, proves_kind2}
use Rattle.blocks.specs.Opening.{first_start, start_after, opened_from, opened}
use Rattle.scaling.specs.Scale.{scaled}
use Rattle.reals.specs.Measure.{measure_named}
use Rattle.reals.specs.Numerals.{with_digits, without_sign, with_sign, with_exponent, numeral_of}
use Rattle.reals.specs.Real.{judged, real_of}
use Rattle.reals.specs.declared.Real.TheVariants.{Number, Metres, Degrees, Radians}
use Rattle.raster.specs.Axis.{forward, backward, configurations, insert_with_after, order_from, order_of}
use Rattle.raster.specs.Bytes.{high_first, number_of, high_bytes, bytes_of, joined}
use Rattle.raster.specs.Element.{nearest, offset_bits, element_bits, element_bytes}
use Rattle.raster.specs.Position.{product, position_from, stored_position, index_at, linear_position}
use Rattle.raster.specs.Types.{types, type_of}
use Rattle.description.specs.Describe.{dims_of, words_of, described}
use Rattle.description.specs.Fields.{word_field, range_field, found_first, dims_from}
use Rattle.array.specs.Delivery.{stored_element, delivered_element, delivered}
use Rattle.frame.specs.File.{pixel_bytes, stored_pixels}
use Rattle.edf.specs.Example.{Example, stored-as, order_is, fields-refused, offset-gives, text_is, value-form, opens_as, real_is, Field, Each}

-- Three dimensions, and configuration 49.
unfoldable pub forty_nine : List Field
forty_nine =
    record { name = ascii "Dim_1"; value = ascii "2" } ∷ record { name = ascii "Dim_2"; value = ascii "2" }
    ∷ record { name = ascii "Dim_3"; value = ascii "2" }
    ∷ record { name = ascii "DataRasterConfiguration"; value = ascii "49" } ∷ []

unfoldable pub table : List Example
table =
    stored-as 2 (3 ∷ 2 ∷ 1 ∷ 6 ∷ 5 ∷ 4 ∷ [])
    ∷ stored-as 5 (1 ∷ 4 ∷ 2 ∷ 5 ∷ 3 ∷ 6 ∷ [])
    ∷ stored-as 6 (3 ∷ 6 ∷ 2 ∷ 5 ∷ 1 ∷ 4 ∷ [])
    ∷ stored-as 7 (4 ∷ 1 ∷ 5 ∷ 2 ∷ 6 ∷ 3 ∷ [])
    ∷ order_is 3 17 (forward 1 ∷ forward 3 ∷ forward 2 ∷ [])
    ∷ order_is 3 48 (backward 3 ∷ backward 2 ∷ backward 1 ∷ [])
    ∷ fields-refused forty_nine 18 5
    ∷ offset-gives 3 (255 ∷ 250 ∷ []) (pos 10) 65535
    ∷ offset-gives 1 (3 ∷ []) (negsuc 4) 0
    ∷ text_is (ascii "a\\:b") (ascii "a;b")
    ∷ text_is (ascii "\\\"") []
    ∷ value-form (ascii "x;") (ascii "\"x\\:\"")
    ∷ opens_as [] (refused 3 0)
    ∷ []

pub examples_hold : Each table
unfolding table forty_nine delivered delivered_element stored_element element_bytes element_bits offset_bits nearest type_of types number_of high_first bytes_of high_bytes joined stored_position position_from order_of order_from insert_with_after configurations stored_pixels pixel_bytes product index_at linear_position described words_of word_field dims_of dims_from found_first range_field whole_number natural digits_from digit same text_of unescaped_after without_line_breaks meaning meanings lookup_byte value_of value_span trimmed leading trimmed_end whitespace without_opening_quote without_closing_quote quoted_text escaped_body letter letters opened opened_from start_after first_start visible_from first_from first_with proves_kind2 block_at header_at frame_at opening_at
examples_hold =
    (λ o. (refl, refl), (λ o. (refl, refl), (λ o. (refl, refl), (λ o. (refl, refl), (refl, (refl, (λ o. refl, (refl, (refl, (refl, (refl, (refl, (refl, tt)))))))))))))

-- Floats by their bits.
unfoldable pub reals : List Example
reals =
    real_is (ascii "-1.234e+2") (Ok (Number (of_bits binary64 0xc05e_d999_9999_999a)))
    ∷ real_is (ascii "32.5_deg") (Ok (Degrees (of_bits binary64 0x4040_4000_0000_0000)))
    ∷ real_is (ascii "-0") (Ok (Number (of_bits binary64 0x8000_0000_0000_0000)))
    ∷ real_is (ascii ".5") (Ok (Number (of_bits binary64 0x3fe0_0000_0000_0000)))
    ∷ real_is (ascii "5.") (Ok (Number (of_bits binary64 0x4014_0000_0000_0000)))
    ∷ real_is (ascii "9007199254740992") (Ok (Number (of_bits binary64 0x4340_0000_0000_0000)))
    ∷ real_is (ascii "9007199254740993") (refused 27 0)
    ∷ real_is (ascii "1e22_m") (Ok (Metres (of_bits binary64 0x4480_f0cf_064d_d592)))
    ∷ real_is (ascii "1e23") (refused 27 0)
    ∷ real_is (ascii "1e-22_rad") (Ok (Radians (of_bits binary64 0x3b5e_3920_1017_5ee6)))
    ∷ real_is (ascii "0.1e-22") (refused 27 0)
    ∷ real_is (ascii "0.1e23") (Ok (Number (of_bits binary64 0x4480_f0cf_064d_d592)))
    ∷ real_is (ascii "0e23") (refused 27 0)
    ∷ real_is (ascii "1801439850948199e1") (Ok (Number (of_bits binary64 0x4350_0000_0000_0002)))
    ∷ real_is (ascii "1E5") (refused 18 0)
    ∷ real_is (ascii "1_km") (refused 18 0)
    ∷ real_is (ascii "1.2.3") (refused 18 0)
    ∷ real_is (ascii ".") (refused 18 0)
    ∷ real_is [] (refused 18 0)
    ∷ real_is (ascii "1e9223372036854775807") (refused 27 0)
    ∷ real_is (ascii "1e9223372036854775808") (refused 18 0)
    ∷ []

pub reals_hold : Each reals
unfolding reals real_of judged numeral_of with_exponent with_sign without_sign with_digits measure_named scaled same first_from whole_number natural digits_from digit round neg of_bits
reals_hold = (refl, (refl, (refl, (refl, (refl, (refl, (refl, (refl, (refl, (refl, (refl, (refl, (refl, (refl, (refl, (refl, (refl, (refl, (refl, (refl, (refl, tt)))))))))))))))))))))
