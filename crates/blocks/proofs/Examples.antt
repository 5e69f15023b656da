-- Whitespace between blocks (02, No. 4), both sides of each rule: one table under one statement, proved by computing.
use Rattle.std.specs.Prelude.{Ok}
use Rattle.scan.specs.Outcome.{Outcome, refused}
use mathlib.Core.Path.{◌≡◌, refl}
use mathlib.Core.List.{List, [], ◌∷◌, ◌++◌}
use Prim.Native.Nat.{ℕ}
use lib.IntN.{ℤ, pos}
use Rattle.scan.specs.Byte.{ascii, same}
use Rattle.scan.specs.Search.{first_from, first_with}
use Rattle.text.specs.Whitespace.{whitespace, visible, visible_from}
use Rattle.text.specs.Fold.{fold, fold_table}
use Rattle.text.specs.Key.{key_of, strip}
use Rattle.text.specs.Value.{leading, trimmed_end, trimmed, without_opening_quote, without_closing_quote, value_span, value_of}
use Rattle.text.specs.Number.{digit, digits_from, natural, whole_number}
use Rattle.header.specs.Entry.{key}
use Rattle.header.specs.Entries.{trimmed_length, value, span, entries, lookup}
use Rattle.header.specs.Frame.{opening_at, closing_at, ends_body, frame_at, header_at}
use Rattle.header.specs.Statements.{statement_at, statements_within, statements_from, is_short, among, are_distinct, statements_of}
use Rattle.blocks.specs.Counting.{is_edf_key, counting, counting_in, size_value}
use Rattle.blocks.specs.Reading.{number_or, is_version, asked_for, after_prefix, memory_of, identity_of}
use Rattle.blocks.specs.Judging.{general_rules, rules_of, role_of, is_whole_or_absent, is_length_or_absent, length_allowed, judged, block_at, proves_kind2}
use Rattle.blocks.specs.Opening.{same_number, same_identity, identity_among, repeats, count_matches, first_start, next_start, start_after, opened_from, opened}
use Rattle.blocks.specs.declared.Row.{Row}

abbrev pub row : ℕ → ℕ → ℕ → ℕ → ℤ → ℕ → ℤ → Row
row start header size kind sequence instance memory =
    record { start = start; header = header; size = size; kind = kind; sequence = sequence; instance = instance; memory = memory }

-- A file, and what opening answers.
pub data Example : Type 0 where
  example : List ℕ → Outcome (List Row) → Example

abbrev pub Each : List Example → Type 0
Each [] = Unit {0}
Each (example s answer ∷ xs) = (opened s ≡ answer) × Each xs

unfoldable pub table : List Example
table =
    -- Before the first header, after the last, between blocks: in no row.
    example (ascii " {}\n ") (Ok (row 1 3 0 1 (pos 0) 0 (pos 0) ∷ []))
    ∷ example (ascii "\n{}\n") (Ok (row 1 3 0 1 (pos 0) 0 (pos 0) ∷ []))
    ∷ example (ascii "\r{}\n") (Ok (row 1 3 0 1 (pos 0) 0 (pos 0) ∷ []))
    ∷ example (ascii "{}\n\r\n\t {}\n") (Ok (row 0 3 0 1 (pos 0) 0 (pos 0) ∷ row 7 3 0 1 (pos 0) 0 (pos 0) ∷ []))
    ∷ example (ascii "{}\n" ++ ((11 ∷ 12 ∷ []) ++ ascii "{}\n")) (Ok (row 0 3 0 1 (pos 0) 0 (pos 0) ∷ row 5 3 0 1 (pos 0) 0 (pos 0) ∷ []))
    -- The data are not whitespace in between, even if they are blank.
    ∷ example (ascii "{Size=2;}\n   {}\n") (Ok (row 0 10 2 1 (pos 0) 0 (pos 0) ∷ row 13 3 0 1 (pos 0) 0 (pos 0) ∷ []))
    ∷ example (ascii "{Size=2;}\n ") (refused 12 0)
    ∷ example (ascii "{Size=2;}\n{}{}\n") (Ok (row 0 10 2 1 (pos 0) 0 (pos 0) ∷ row 12 3 0 1 (pos 0) 0 (pos 0) ∷ []))
    -- 3: the first byte that is no whitespace, or the length.
    ∷ example (ascii "") (refused 3 0)
    ∷ example (ascii " \n ") (refused 3 3)
    ∷ example (ascii "  x") (refused 3 2)
    ∷ example (ascii "{}\n x") (refused 3 4)
    ∷ example (ascii "{}\n " ++ ((0 ∷ []) ++ ascii "{}\n")) (refused 3 4)
    -- 5, 4, 6 to 9: from the brace in kind 1, and before the kind is known.
    ∷ example (ascii "\n{") (refused 5 1)
    ∷ example (ascii "{}") (refused 5 0)
    ∷ example (ascii "{} \n") (refused 5 0)
    ∷ example (ascii "\r\n{EDF_DataBlockID=1.Image.Psd;}") (refused 5 2)
    ∷ example (ascii "\n{a=" ++ ((0 ∷ []) ++ ascii ";}\n")) (refused 4 4)
    ∷ example (ascii "\r\n{x}\n") (refused 6 2)
    ∷ example (ascii "\n{EDF_x=;y}\n") (refused 6 1)
    ∷ example (ascii "\r\n{a=;A=;}\n") (refused 8 2)
    ∷ example (ascii "\r\n{Size=x;}\n") (refused 9 2)
    -- A first header that proves kind 2: no start pattern at 0.
    ∷ example (ascii " {EDF_x=;edf_X=;}\n") (refused 3 0)
    ∷ example (ascii " {EDF_x=;y;}\n") (refused 6 1)
    ∷ example (ascii "\n\n{EDF_DataBlockID=1.Image.Psd;}\n") (refused 3 0)
    ∷ example (ascii "\r{EDF_DataBlockID=1.Image.Psd;}\n") (refused 3 0)
    -- One there: the block starts at 0.
    ∷ example (ascii "\r\n{EDF_x=;}\n") (refused 9 0)
    ∷ example (ascii "\n{EDF_x=;edf_X=;}\n") (refused 8 0)
    ∷ example (ascii "\r\n{EDF_DataBlockID=1.Image.Psd;}\n") (refused 11 0)
    ∷ example (ascii "\n{EDF_DataFormatVersion=2.42;EDF_DataBlocks=1;EDF_BlockBoundary=1;}\n{EDF_DataBlockID=1.Image.Psd;}\n") (Ok (row 0 68 0 0 (pos 0) 0 (pos 0) ∷ row 68 31 0 1 (pos 1) 1 (pos 1) ∷ []))
    -- No whitespace between or after blocks of kind 2: start patterns alone.
    ∷ example (ascii "{EDF_DataFormatVersion=2.42;EDF_DataBlocks=1;EDF_BlockBoundary=1;}\n\r\n{EDF_DataBlockID=1.Image.Psd;}\n") (Ok (row 0 67 0 0 (pos 0) 0 (pos 0) ∷ row 67 33 0 1 (pos 1) 1 (pos 1) ∷ []))
    ∷ example (ascii "{EDF_DataFormatVersion=2.42;EDF_DataBlocks=1;EDF_BlockBoundary=1;}\n  {EDF_DataBlockID=1.Image.Psd;}\n") (refused 3 67)
    ∷ example (ascii "{EDF_DataFormatVersion=2.42;EDF_DataBlocks=1;EDF_BlockBoundary=1;}\n{EDF_DataBlockID=1.Image.Psd;}\n\n") (refused 3 98)
    -- No length is wrong in kind 1, and no EDF_ key counts.
    ∷ example (ascii "{a=1;EDF_HeaderSize=3;}\n") (Ok (row 0 24 0 1 (pos 0) 0 (pos 0) ∷ []))
    ∷ example (ascii "{}\n {EDF_DataBlockID=1.Image.Psd;}\n") (Ok (row 0 3 0 1 (pos 0) 0 (pos 0) ∷ row 4 31 0 1 (pos 0) 0 (pos 0) ∷ []))
    ∷ []

pub examples_hold : Each table
unfolding table first_from first_with whitespace visible visible_from fold fold_table key_of strip leading trimmed_end trimmed without_opening_quote without_closing_quote value_span value_of digit digits_from natural whole_number key trimmed_length value span entries lookup opening_at closing_at ends_body frame_at header_at statement_at statements_within statements_from is_short among are_distinct statements_of is_edf_key counting counting_in size_value number_or is_version asked_for after_prefix memory_of identity_of general_rules rules_of role_of is_whole_or_absent is_length_or_absent length_allowed judged proves_kind2 block_at same_number same_identity identity_among repeats count_matches first_start next_start start_after opened_from opened same
examples_hold = (refl, (refl, (refl, (refl, (refl, (refl, (refl, (refl, (refl, (refl, (refl, (refl, (refl, (refl, (refl, (refl, (refl, (refl, (refl, (refl, (refl, (refl, (refl, (refl, (refl, (refl, (refl, (refl, (refl, (refl, (refl, (refl, (refl, (refl, (refl, tt)))))))))))))))))))))))))))))))))))
