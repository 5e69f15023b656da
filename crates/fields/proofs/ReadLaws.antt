-- What is read of a keyword, by the grammar: where its value stands, its bytes, and the value as a whole number and as text.
use Rattle.std.specs.Prelude.{Option, Some, Ok, Err, slice_get}
use Rattle.scan.specs.Outcome.{refused, present}
use mathlib.Core.Path.{◌≡◌, refl, sym, ap, ◌∙◌}
use mathlib.Core.List.{List}
use mathlib.Core.Logic.{◌↔◌}
use Prim.Native.Nat.{ℕ, ◌≤◌}
use lib.IntN.{ℤ}
use lib.ListN.{length}
use Rattle.scan.specs.declared.Error.{Error}
use Rattle.scan.specs.declared.Span.{Span}
use Rattle.scan.proofs.Cases.{by_option, by_outcome, none_some, ok-failed}
use Rattle.text.specs.Number.{whole_number}
use Rattle.text.specs.Text.{text_of, short_text}
use Rattle.lexical.specs.Whole.{IsWhole}
use Rattle.lexical.proofs.WholeLaws.{whole_sound, whole_complete}
use Rattle.header.specs.Entry.{Entry}
use Rattle.blocks.specs.Grammar.{Partition}
use Rattle.blocks.specs.Limits.{file_limit}
use Rattle.blocks.specs.Values.{Absent}
use Rattle.blocks.specs.declared.Row.{Row}
use Rattle.keyword.specs.Keyword.{entry_of, found, value_found, whole_number_of, text_in}
use Rattle.description.proofs.DescribedLaws.{step_ok, same_ok}
use Rattle.fields.specs.Field.{FieldHas}
use Rattle.fields.specs.Keyword.{HasKeyword, LacksKeyword}
use Rattle.fields.proofs.KeywordLaws.{keyword-found, keyword_missing}
use Rattle.fields.proofs.Present.{present_some, present_none}

-- ---- A keyword that is not found

module _ (s : List ℕ) (b : ℕ) (sought : List ℕ) where
  module _ {x : Error} (e : entry_of s b sought ≡ Err x) where
    pub not_found : found s b sought ≡ Err x
    unfolding found
    not_found = rw e

    pub no_number : whole_number_of s b sought ≡ Err x
    unfolding whole_number_of
    no_number = rw e

    pub no_text : text_in s b sought ≡ Err x
    unfolding text_in
    no_text = rw e

  no_entry_lem : {x : Error} → found s b sought ≡ Err x → entry_of s b sought ≡ Err x
  unfolding found
  no_entry_lem {x} q =
      by_outcome (entry_of s b sought)
      (λ e r. absurd (ok-failed (rw r at q)))
      (λ y r. let z : y ≡ x = cc (rw r at q) in r ∙ ap Err z)

-- A field is absent if its keyword is.
pub lacks_absent : {s : List ℕ} {rows : List Row} {row : Row} {name : List ℕ}
    → LacksKeyword s rows row name ↔ Absent (FieldHas s rows row name)
lacks_absent = (
  λ n v f. n f.entry f.keyword,
  λ a e h. a e.value (record { entry = e; keyword = h; value_is = refl }),
)

-- ---- A block of a file with a partition

module _ {s : List ℕ} {rows : List Row} (small : length s ≤ file_limit) (p : Partition s rows) (b : ℕ) {row : Row}
    (at : slice_get rows b ≡ Some row) (sought : List ℕ) where
  pub found_at : {span : Span} → (found s b sought ≡ Ok span) ↔ ((e : Entry) × HasKeyword s rows row sought e × (e.span ≡ span))
  unfolding found
  found_at {span} = (
    λ q.
        let r = step_ok (entry_of s b sought) (λ (e : Entry). Ok e.span) span q in
        (r.0, (keyword-found small p b at sought).0 r.1, same_ok r.2),
    λ h. rw ((keyword-found small p b at sought).1 h.1) (ap Ok h.2),
  )

  pub found_none : (found s b sought ≡ refused 16 0) ↔ LacksKeyword s rows row sought
  found_none = (
    λ q. (keyword_missing small p b at sought).0 (no_entry_lem s b sought q),
    λ n. not_found s b sought ((keyword_missing small p b at sought).1 n),
  )

  module _ {e : Entry} (has : HasKeyword s rows row sought e) where
    entry_is : entry_of s b sought ≡ Ok e
    entry_is = (keyword-found small p b at sought).1 has

    pub value_is : value_found s b sought ≡ Ok e.value
    unfolding value_found
    value_is = rw entry_is

    pub text_is : text_in s b sought ≡ short_text (text_of e.value)
    unfolding text_in
    text_is = rw entry_is

    number_by_lem : whole_number_of s b sought ≡ present (whole_number e.value) 18 0
    unfolding whole_number_of
    number_by_lem = rw entry_is

    pub number_is : {z : ℤ} → (whole_number_of s b sought ≡ Ok z) ↔ IsWhole e.value z
    number_is = (
      λ q. whole_sound e.value (present_some 18 0 (whole_number e.value) (sym number_by_lem ∙ q)),
      λ w. number_by_lem ∙ ap (λ (o : Option ℤ). present o 18 0) (whole_complete w),
    )

    pub number_bad : (whole_number_of s b sought ≡ refused 18 0) ↔ ((z : ℤ) → IsWhole e.value z → ⊥)
    number_bad = (
      λ q z w. none_some (sym (present_none 18 0 (whole_number e.value) (sym number_by_lem ∙ q)) ∙ whole_complete w),
      λ n. by_option (whole_number e.value) (λ o. rw (number_by_lem, o)) (λ z o. absurd (n z (whole_sound e.value o))),
    )
