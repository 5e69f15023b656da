-- The rows of an opened file: each has a view, and lies inside the file.
use Rattle.std.specs.Prelude.{Ok, Err}
use Rattle.scan.specs.Outcome.{Outcome, error_at}
use mathlib.Core.Path.{◌≡◌, sym, ap, ◌∙◌}
use mathlib.Core.Bool.{true, ◌&&◌}
use mathlib.Core.List.{List, [], ◌++◌}
use Prim.Native.Nat.{ℕ, ◌≤◌, ◌<◌}
use native.Mathlib.Omega.{arith}
use borrow.Author.Tests.{le-leb, lt-leb}
use lib.Dec.{eqb}
use lib.ListN.{length, get_or}
use lib.Seq.{take-length, length-take-le}
use Rattle.scan.specs.declared.Error.{Error}
use Rattle.scan.proofs.Cases.{by_test, both_true}
use Rattle.header.specs.Frame.{header_at}
use Rattle.header.specs.declared.Header.{Header}
use Rattle.blocks.specs.Opening.{opened_file}
use Rattle.blocks.specs.declared.Row.{Row}
use Rattle.blocks.proofs.Answers.{within_limit}
use Rattle.blocks.proofs.Errors.{error_bounded}
use Rattle.blocks.proofs.Sound.{error-sound}
use Rattle.opening.specs.Core.{Opens, rows_of}
use Rattle.opening.specs.declared.Opened.{Opened}
use Rattle.keyword.specs.Keyword.{View}
use Rattle.keyword.specs.Viewing.{header_entries, row_view}
use Rattle.keyword.proofs.Views.{Headed, element_at, row_headed, general_headed, row_within, block_view, opened_bounded}
use Rattle.description.specs.Describe.{description_in, description_of}
use Rattle.description.specs.declared.Description.{Description}
use Rattle.description.proofs.DescribedLaws.{block_valid}
use Rattle.columns.specs.Columns.{after, array_columns, Answered}
use Rattle.blocks.specs.Limits.{file_limit}
use Rattle.listing.specs.Limits.{input_limit}
use Rattle.listing.specs.Input.{input_listing}
use Rattle.listing.specs.Listing.{description_columns, details, block_lines, refused_line, count_line, listing, listing_of}
use Rattle.listing.specs.Rows.{FileRows, IsRow, row_description}
use Rattle.listing.proofs.LineLaws.{details_are}
use Rattle.listing.proofs.DescriptionErrors.{description_errors}

module _ (s : List ℕ) where
  -- A row whose headers stand has a view.
  row_viewed : (first row : Row) {own : Header} → header_at s row.start ≡ Ok own → (eqb first.kind 0 ≡ true → Headed s 0)
      → (v : View) × (row_view s first row ≡ Ok v)
  unfolding row_view
  row_viewed first row {own} e f =
      by_test (eqb row.kind 1 && eqb first.kind 0)
      (λ t. let g = f (both_true (eqb row.kind 1) (eqb first.kind 0) t).1 in
      (record { row = row; own = header_entries s own; general = header_entries s g.header }, rw (e, t, g.frame)))
      (λ t. (record { row = row; own = header_entries s own; general = [] }, rw (e, t)))

  module _ {rows : List Row} (f : FileRows s rows) where
    pub is_row : (k : ℕ) → k < length rows → (z : Row) → IsRow s (get_or rows 0 z) (get_or rows k z) k
    is_row k h z =
        let g = element_at rows k z h in
        let x = row_headed s f.opens k g in
        let first = element_at rows 0 z (omega arith) in
        let v = row_viewed (get_or rows 0 z) (get_or rows k z) x.frame (general_headed s f.opens first) in
        let e = block_view s k f.limit (length rows) rows (ap Ok (take-length rows) ∙ sym f.opens) (omega arith) h z in
        record {
          view = v.0;
          viewed = v.1;
          found = sym e ∙ v.1;
          inside = omega (arith, row_within s f.opens k g, f.limit);
          few = omega (arith, f.few);
        }

  -- What opening answers.
  module _ (r : Outcome Opened) (h : Opens s r) (limit : length s ≤ file_limit) where
    pub rows_count : {o : Opened} → r ≡ Ok o → length (rows_of o) ≡ o.count
    rows_count {o} a = let b = opened_bounded s r h a in length-take-le o.count o.rows (omega (arith, b.0, b.1))

    pub file_rows : {o : Opened} → r ≡ Ok o → FileRows s (rows_of o)
    file_rows a =
        record { opens = sym (rw a at h.says); few = omega (arith, rows_count a, (opened_bounded s r h a).0); limit = limit }

    pub error_small : {e : Error} → r ≡ Err e → e.position ≤ file_limit
    error_small a = let b = error_bounded (error-sound s (sym (rw a at h.says))) in omega (arith, b.position)

  -- ---- The description of a row

  module _ {first row : Row} {k : ℕ} (i : IsRow s first row k) where
    by_view : row_description s first row ≡ description_in i.view
    unfolding row_description
    by_view = rw i.viewed

    pub row_description_lem : row_description s first row ≡ description_of s k
    unfolding description_of
    row_description_lem = by_view ∙ rw i.found

    pub row_answered : {d : Description} → Ok d ≡ row_description s first row → Answered d
    row_answered {d} e = (i.view.row.size, block_valid i.view d (sym (e ∙ by_view)))

    pub row_refused : {e : Error} → Err e ≡ row_description s first row → e.position ≤ 7
    row_refused e = ((description_errors i.view).hold (sym (e ∙ by_view))).2

  -- By the view of the row.
  module _ (first row : Row) where
    pub not_viewed : {e : Error} → Err e ≡ row_view s first row → Err e ≡ row_description s first row
    unfolding row_description
    not_viewed e = rw (← e)

    pub of_view : {v : View} → Ok v ≡ row_view s first row → {x : Outcome Description} → x ≡ description_in v → x ≡ row_description s first row
    unfolding row_description
    of_view e q = rw (← e) q

  -- ---- The listing, by what opening answers

  pub listing_too_large : file_limit < length s → refused_line (error_at 1 0) ≡ listing s
  unfolding listing listing_of opened_file
  listing_too_large l = rw (lt-leb (length s) file_limit l)

  module _ (r : Outcome Opened) (h : Opens s r) (limit : length s ≤ file_limit) where
    pub listing-failed : {e : Error} → r ≡ Err e → refused_line e ≡ listing s
    unfolding listing listing_of
    listing-failed a = rw (within_limit s limit, sym (rw a at h.says))

    pub listing-opened : {o : Opened} → r ≡ Ok o → count_line o.count ++ block_lines s 0 (rows_of o) ≡ listing s
    unfolding listing listing_of
    listing-opened a =
        let f = file_rows r h limit a in
        rw (within_limit s limit, f.opens, rows_count r h limit a)

  -- ---- The program's input

  pub input_too_large : input_limit < length s → refused_line (error_at 1 0) ≡ input_listing s
  unfolding input_listing
  input_too_large l = rw (lt-leb (length s) input_limit l)

  pub input_small : length s ≤ input_limit → listing s ≡ input_listing s
  unfolding input_listing
  input_small l = rw (le-leb (length s) input_limit l)

-- What follows the identity of a data block.
pub details_as : (row : Row) → (row.kind ≡ 0 → ⊥) → {x o : Outcome Description} → x ≡ o
    → after 32 (description_columns x) ≡ after 32 (details row o)
details_as row k {x} {o} e = ap (λ (y : Outcome Description). after 32 (description_columns y)) e ∙ details_are row k o

pub array_details : (row : Row) → (row.kind ≡ 0 → ⊥) → {d : Description} {o : Outcome Description} → Ok d ≡ o
    → after 32 (array_columns d) ≡ after 32 (details row o)
unfolding description_columns
array_details row k e = details_as row k e
