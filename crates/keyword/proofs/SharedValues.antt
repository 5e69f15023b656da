-- The keywords of a block that two files share: the same values and origins, and the same spans but for the block's start.
use Rattle.std.specs.Prelude.{Option, None, Some, Ok, option_map}
use Rattle.scan.specs.Outcome.{Outcome, present, ◌>>=◌}
use mathlib.Core.Path.{◌≡◌, refl, sym, ap, ◌∙◌}
use mathlib.Core.List.{List, [], map}
use Prim.Native.Nat.{ℕ, ◌+◌}
use native.Mathlib.Omega.{arith}
use borrow.Author.Tests.{le-leb, lt-leb}
use Rattle.scan.specs.declared.Span.{Span}
use Rattle.scan.proofs.Cases.{by_test, by_option, by_outcome, none_some}
use Rattle.text.specs.Key.{key_of}
use Rattle.header.specs.Entries.{lookup}
use Rattle.header.specs.Entry.{Entry}
use Rattle.blocks.specs.Counting.{is_edf_key}
use Rattle.blocks.specs.declared.Row.{Row}
use Rattle.locality.specs.Blocks.{general_header}
use Rattle.locality.specs.Moved.{moved_span, moved_from, moved_entry, moved_row, map_outcome}
use Rattle.locality.proofs.KeyShift.{lookup_moved}
use Rattle.locality.proofs.Outcomes.{bind_map, map_same}
use Rattle.locality.proofs.Rows.{row_unmoved, span_unmoved}
use Rattle.keyword.specs.Keyword.{View, general_entries, view_of, lookup_in, entry_of, found, value_found, whole_number_of, text_in}
use Rattle.keyword.specs.Origin.{origin_in}
use Rattle.keyword.specs.Shared.{SharedBlock}
use Rattle.keyword.specs.Viewing.{span_in, value_in}
use Rattle.keyword.proofs.Reading.{number_by_lem, text_by}
use Rattle.keyword.proofs.Shared.{general_by, general_by_lem, moved_view, own, view_with, view_is, view_moved}
use Rattle.keyword.proofs.SharedSpans.{general_before}

-- ---- In a view

module _ (n : ℕ) (v : View) where
  pub value_moved : (name : List ℕ) → value_in (moved_view n v) name ≡ value_in v name
  unfolding lookup_in
  value_moved name =
      rw (lookup_moved n (key_of name) v.own) (by_option (lookup (key_of name) v.own) (λ e. rw e) (λ x e. rw e))

  pub origin_moved : (name : List ℕ) → origin_in (moved_view n v) name ≡ origin_in v name
  unfolding origin_in
  origin_moved name =
      rw (lookup_moved n (key_of name) v.own) (by_option (lookup (key_of name) v.own) (λ e. rw e) (λ x e. rw e))

-- ---- Of a block

module _ (s : List ℕ) (k : ℕ) (name : List ℕ) where
  found_by : found s k name ≡ (view_of s k >>= λ v. present (span_in v name) 16 0)
  unfolding found entry_of
  found_by = by_outcome (view_of s k) (λ v e. rw e (by_option (lookup_in v name) (λ f. rw f) (λ x f. rw f))) (λ x e. rw e)

  value_by : value_found s k name ≡ (view_of s k >>= λ v. present (value_in v name) 16 0)
  unfolding value_found entry_of
  value_by = by_outcome (view_of s k) (λ v e. rw e (by_option (lookup_in v name) (λ f. rw f) (λ x f. rw f))) (λ x e. rw e)

module _ (n : ℕ) {s t : List ℕ} {k j : ℕ} {row : Row} (b : SharedBlock s t k j row (moved_row n row)) (name : List ℕ) where
  -- The value is the same, and so is the number or text that it is.
  pub value_shared : value_found t j name ≡ value_found s k name
  value_shared =
      value_by t j name ∙ ap (λ (o : Outcome View). o >>= λ v. present (value_in v name) 16 0) (view_moved n b)
      ∙ bind_map (moved_view n) (λ v. present (value_in v name) 16 0) (λ v. present (value_in v name) 16 0)
      (λ v. ap (λ (o : Option (List ℕ)). present o 16 0) (value_moved n v name)) (view_of s k)
      ∙ sym (value_by s k name)

  pub number_shared : whole_number_of t j name ≡ whole_number_of s k name
  number_shared = rw (number_by_lem t j name, number_by_lem s k name, value_shared)

  pub text_shared : text_in t j name ≡ text_in s k name
  text_shared = rw (text_by t j name, text_by s k name, value_shared)

  -- ---- Where it stands

  -- By what becomes of a span of the own header, and of one of the general header.
  module _ (move : Span → Span) (own-moves : (p : Span) → move (moved_span row.start p) ≡ moved_span n (moved_span row.start p))
      (general-stays : (g : List Entry) → general_entries s b.rows row ≡ Ok g → (key : List ℕ) (e : Entry) → lookup key g ≡ Some e
      → move e.span ≡ e.span) where
    own_entries : List Entry
    own_entries = (own b.file k b.at).entries

    span_shared : (g : List Entry) → general_entries s b.rows row ≡ Ok g
        → span_in (moved_view n (view_with b.file k b.at g)) name ≡ option_map move (span_in (view_with b.file k b.at g) name)
    unfolding lookup_in own_entries
    span_shared g q =
        let key = key_of name in
        let a = row.start in
        rw (lookup_moved n key (map (moved_entry a) own_entries), lookup_moved a key own_entries)
        (by_option (lookup key own_entries)
        (λ e. by_test (is_edf_key key)
        (λ u. rw (e, u))
        (λ u. by_option (lookup key g) (λ f. rw (e, u, f)) (λ x f. rw (e, u, f) (ap Some (sym (general-stays g q key x f))))))
        (λ d e. rw e (ap Some (sym (own-moves d.span)))))

    pub found_shared : found t j name ≡ map_outcome move (found s k name)
    found_shared =
        rw (found_by t j name, found_by s k name, view_moved n b, view_is b.file k b.at)
        (by_outcome (general_entries s b.rows row)
        (λ g q. rw (q, span_shared g q) (by_option (span_in (view_with b.file k b.at g) name) (λ f. rw f) (λ x f. rw f)))
        (λ x q. rw q))

  -- What stands before the block, in the general header, stays; all else is n bytes later.
  pub found_moved_from : found t j name ≡ map_outcome (moved_from row.start n) (found s k name)
  found_moved_from =
      found_shared (moved_from row.start n)
      (λ p. rw (le-leb row.start (row.start + p.offset) (omega arith)))
      (λ g q key e l. rw (lt-leb row.start e.span.offset (general_before b.file.partition k b.at q key l)))

  -- Without a general header all is.
  pub found_moved : general_header s b.rows ≡ None → found t j name ≡ map_outcome (moved_span n) (found s k name)
  unfolding lookup
  found_moved none-there =
      found_shared (moved_span n) (λ p. refl)
      (λ g q key e l.
      let p : Ok [] ≡ Ok g = sym (ap (general_by row.kind) none-there) ∙ sym (general_by_lem b.file.partition row) ∙ q in
      let z : [] ≡ g = cc in
      absurd (none_some (rw (sym z) at l)))

-- ---- With the same row

module _ {s t : List ℕ} {k j : ℕ} {row : Row} (b : SharedBlock s t k j row row) where
  pub same_moved : SharedBlock s t k j row (moved_row 0 row)
  same_moved = rw (row_unmoved row) b

  pub found-same : (name : List ℕ) → found t j name ≡ found s k name
  found-same name =
      found_shared 0 same_moved name (λ p. p) (λ p. sym (span_unmoved (moved_span row.start p))) (λ g q key e l. refl)
      ∙ map_same (λ p. p) (λ p. refl) (found s k name)
