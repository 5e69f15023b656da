-- The conditions of the laws can be met, and each is needed: where one is dropped, two small files refute the law. Proved by computing.
use Rattle.std.specs.Prelude.{None, Some, Ok, slice_get}
use Rattle.scan.specs.Outcome.{Outcome, refused}
use mathlib.Core.Path.{◌≡◌, refl, sym, ap, ◌∙◌}
use mathlib.Core.List.Memᴰ
use mathlib.Core.List.{List, [], ◌∷◌, ◌++◌, map}
use Prim.Native.Nat.{ℕ, ◌+◌, ◌≤◌}
use native.Mathlib.Omega.{arith}
use lib.IntN.{pos}
use lib.ListN.{length, drop}
use lib.Seq.{drop-append_seam}
use Rattle.scan.specs.Byte.{ascii, same}
use Rattle.scan.specs.Search.{first_with, first_from}
use Rattle.scan.proofs.Cases.{ok-failed}
use Rattle.scan.proofs.Chains.{chain_end, chain_length}
use Rattle.text.specs.Fold.{fold_table, fold}
use Rattle.text.specs.Key.{strip, key_of}
use Rattle.text.specs.Number.{digit, digits_from, natural, whole_number}
use Rattle.text.specs.Value.{leading, trimmed_end, trimmed, without_opening_quote, without_closing_quote, value_span, value_of}
use Rattle.text.specs.Whitespace.{whitespace, visible, visible_from}
use Rattle.header.specs.Entries.{trimmed_length, value, span, entries, lookup}
use Rattle.header.specs.Entry.{key}
use Rattle.header.specs.Frame.{opening_at, closing_at, ends_body, frame_at, header_at}
use Rattle.header.specs.Statements.{statement_at, statements_within, statements_from, is_short, among, are_distinct, statements_of}
use Rattle.blocks.specs.Counting.{is_edf_key, counting, counting_in, size_value}
use Rattle.blocks.specs.Grammar.{Gap, SpacedBlock, Partition}
use Rattle.blocks.specs.Judging.{general_rules, rules_of, role_of, is_whole_or_absent, is_length_or_absent, length_allowed, judged, block_at, proves_kind2}
use Rattle.blocks.specs.Limits.{file_limit, block_limit}
use Rattle.blocks.specs.Opening.{same_number, same_identity, identity_among, repeats, count_matches, first_start, next_start, start_after, opened_from, opened, opened_file}
use Rattle.blocks.specs.Places.{kind_1}
use Rattle.blocks.specs.Reading.{number_or, is_version, asked_for, after_prefix, memory_of, identity_of}
use Rattle.blocks.specs.declared.Row.{Row}
use Rattle.blocks.proofs.BlockPlaces.{spaced_inside}
use Rattle.blocks.proofs.Complete.{opened_complete}
use Rattle.blocks.proofs.Sound.{opened-sound}
use Rattle.blocks.proofs.Unambiguous.{partition_unique}
use Rattle.locality.specs.Blocks.{AcceptedFile, block_bytes, general_header, OfKind, Joinable, joined_rows, AloneBlock}
use Rattle.locality.specs.Moved.{moved_row}
use Rattle.locality.proofs.Joined.{files_joined}
use Rattle.locality.proofs.KindLaws.{kind_by_row}
use Rattle.keyword.specs.Keyword.{entries_at, general_entries, view_of, lookup_in, entry_of, value_found}

-- A file with a general header, in which the value of the keyword A is one byte, and a data block without data.
unfoldable file_with : ℕ → List ℕ
file_with a =
    ascii "{EDF_DataFormatVersion=2.40;EDF_DataBlocks=1;EDF_BlockBoundary=1;A="
    ++ (a ∷ ascii ";}" ++ (10 ∷ ascii "{EDF_DataBlockID=1.Image.Psd;}" ++ (10 ∷ [])))

-- Its rows.
abbrev block : Row
block = record { start = 71; header = 31; size = 0; kind = 1; sequence = pos 1; instance = 1; memory = pos 1 }

abbrev rows : List Row
rows = record { start = 0; header = 71; size = 0; kind = 0; sequence = pos 0; instance = 0; memory = pos 0 } ∷ block ∷ []

-- A file of kind 1: one header, that says nothing, with whitespace before and after it.
unfoldable pub blank : List ℕ
blank = ascii " {}\n "

abbrev pub blank_row : Row
blank_row = record { start = 1; header = 3; size = 0; kind = 1; sequence = pos 0; instance = 0; memory = pos 0 }

-- And one that starts with an EDF_ key. Behind the other it is a block of kind 1.
unfoldable named : List ℕ
named = ascii "{EDF_DataBlockID=x;}\n"

abbrev named_row : Row
named_row = record { start = 5; header = 21; size = 0; kind = 1; sequence = pos 0; instance = 0; memory = pos 0 }

-- ---- What is computed

record Facts : Type 0 where
  -- Two such files have the same rows, and the data block has the same bytes,
  opens : opened (file_with 49) ≡ Ok rows
  other_opens : opened (file_with 50) ≡ Ok rows
  bytes : block_bytes (file_with 49) block ≡ block_bytes (file_with 50) block
  -- but not the same values: A is a keyword of the general header.
  value : value_found (file_with 49) 1 (ascii "A") ≡ Ok (49 ∷ [])
  other_value : value_found (file_with 50) 1 (ascii "A") ≡ Ok (50 ∷ [])
  -- Concatenated they are refused: the third header starts with EDF_DataFormatVersion, not with EDF_DataBlockID.
  joined : opened (file_with 49 ++ file_with 50) ≡ refused 9 102
  small : length (file_with 49) ≡ 102
  other_small : length (file_with 50) ≡ 102
  blank_opens : opened blank ≡ Ok (blank_row ∷ [])
  blank_small : length blank ≡ 5
  -- Alone it is a first header of kind 2, with a malformed identity.
  named_opens : opened (blank ++ named) ≡ Ok (blank_row ∷ named_row ∷ [])
  named_small : length (blank ++ named) ≡ 26
  named_alone : opened (block_bytes (blank ++ named) named_row) ≡ refused 9 0

facts : Facts
unfolding file_with blank named first_with first_from fold_table fold strip key_of digit digits_from natural whole_number leading trimmed_end trimmed without_opening_quote without_closing_quote value_span value_of whitespace visible visible_from trimmed_length value span entries lookup key opening_at closing_at ends_body frame_at header_at statement_at statements_within statements_from is_short among are_distinct statements_of is_edf_key counting counting_in size_value general_rules rules_of role_of is_whole_or_absent is_length_or_absent length_allowed judged block_at proves_kind2 same_number same_identity identity_among repeats count_matches first_start next_start start_after opened_from opened opened_file number_or is_version asked_for after_prefix memory_of identity_of same entries_at general_entries view_of lookup_in entry_of value_found
facts = record {
  opens = refl;
  other_opens = refl;
  bytes = refl;
  value = refl;
  other_value = refl;
  joined = refl;
  small = refl;
  other_small = refl;
  blank_opens = refl;
  blank_small = refl;
  named_opens = refl;
  named_small = refl;
  named_alone = refl;
}

accepted : AcceptedFile (file_with 49) rows
accepted = record { small = omega (arith, facts.small); partition = opened-sound (file_with 49) facts.opens }

other_accepted : AcceptedFile (file_with 50) rows
other_accepted = record { small = omega (arith, facts.other_small); partition = opened-sound (file_with 50) facts.other_opens }

-- ---- Files that meet the conditions

blank_accepted : AcceptedFile blank (blank_row ∷ [])
blank_accepted = record { small = omega (arith, facts.blank_small); partition = opened-sound blank facts.blank_opens }

blank_kind : OfKind kind_1 blank
blank_kind = kind_by_row blank_accepted.partition {row = blank_row} (Memᴰ.head refl) refl refl

pub some_joinable : Joinable blank blank (blank_row ∷ []) (blank_row ∷ [])
some_joinable = record {
  first = blank_accepted;
  second = blank_accepted;
  first_kind = blank_kind;
  second_kind = blank_kind;
  few = omega arith;
  small = omega (arith, facts.blank_small);
}

-- ---- The laws without a condition

-- A block of two files, without "the same general header or none in either".
pub general-header-needed :
    ((s t : List ℕ) (us vs : List Row) (k j : ℕ) (row : Row) → AcceptedFile s us → AcceptedFile t vs → slice_get us k ≡ Some row
    → slice_get vs j ≡ Some row → block_bytes s row ≡ block_bytes t row → (name : List ℕ) → value_found t j name ≡ value_found s k name) → ⊥
general-header-needed law =
    let e : ◌≡◌ {A = Outcome (List ℕ)} (Ok (50 ∷ [])) (Ok (49 ∷ [])) =
    sym facts.other_value
    ∙ law (file_with 49) (file_with 50) rows rows 1 1 block accepted other_accepted refl refl facts.bytes (ascii "A") ∙ facts.value in
    let z : ◌≡◌ {A = ℕ} 50 49 = cc in
    omega arith

-- Concatenated files, without "of kind 1".
pub kind-needed :
    ((s t : List ℕ) (us vs : List Row) → AcceptedFile s us → AcceptedFile t vs → length us + length vs ≤ block_limit → length s + length t ≤ file_limit
    → AcceptedFile (s ++ t) (joined_rows (length s) us vs)) → ⊥
kind-needed law =
    let small : length (file_with 49) + length (file_with 50) ≤ file_limit = omega (arith, facts.small, facts.other_small) in
    let c = law (file_with 49) (file_with 50) rows rows accepted other_accepted (omega arith) small in
    ok-failed (sym (opened_complete (file_with 49 ++ file_with 50) c.partition) ∙ facts.joined)

-- And the starts of the second file's rows must be moved.
pub starts_moved : (s t : List ℕ) {us vs : List Row} → Joinable s t us vs → Partition (s ++ t) (us ++ vs) → ⊥
starts_moved s t {us} {vs} j c = go vs j.second.partition.not_empty same
  where
    p : Partition s us
    p = j.first.partition

    long : 0 + length us ≤ length s
    long =
        let c = chain_end (SpacedBlock s p.rules) (λ at. Gap s p.rules.kind at (length s)) 0 us p.blocks in
        omega (arith, chain_length (SpacedBlock s p.rules) (λ k x m b. (spaced_inside b).0) c.0 0 us c.2, c.1.order)

    same : map (moved_row (length s)) vs ≡ vs
    same =
        sym (drop-append_seam us (map (moved_row (length s)) vs))
        ∙ ap (drop (length us)) (partition_unique (files_joined s t j).partition c) ∙ drop-append_seam us vs

    go : (xs : List Row) → 1 ≤ length xs → map (moved_row (length s)) xs ≡ xs → ⊥
    go [] l e = omega arith
    go (x ∷ xs) l e =
        let z : Some (moved_row (length s) x) ≡ Some x = ap (λ (l : List Row). slice_get l 0) e in
        let y : moved_row (length s) x ≡ x = cc in
        omega (arith, ap (λ (r : Row). r.start) y, long, p.not_empty)

-- Not every block of a file without a general header is a file of its own.
pub alone-needed :
    ((s : List ℕ) (us : List Row) (k : ℕ) (row : Row) → AcceptedFile s us → general_header s us ≡ None → slice_get us k ≡ Some row
    → AloneBlock s k row) → ⊥
alone-needed law =
    let s = blank ++ named in
    let file : AcceptedFile s (blank_row ∷ named_row ∷ []) =
    record { small = omega (arith, facts.named_small); partition = opened-sound s facts.named_opens } in
    let a = law s (blank_row ∷ named_row ∷ []) 1 named_row file refl refl in
    ok-failed (sym (opened_complete (block_bytes s named_row) a.alone) ∙ facts.named_alone)
