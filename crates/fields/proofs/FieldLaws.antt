-- One field: what is read of it is its value by the grammar, or its default exactly if it is absent.
use Rattle.std.specs.Prelude.{Option, None, Some, Ok}
use Rattle.std.proofs.lemmas.Option.{same_Some}
use Rattle.scan.specs.Outcome.{Outcome, refused}
use mathlib.Core.Path.{◌≡◌, refl, subst}
use mathlib.Core.Bool.{◌&&◌}
use mathlib.Core.List.{List}
use Prim.Native.Nat.{ℕ, ◌≤◌}
use borrow.Author.Tests.{leb-true}
use lib.Dec.{leb}
use lib.IntN.{ℤ, pos, negsuc}
use Rattle.scan.proofs.Cases.{by_test, both_true, none_some}
use Rattle.scan.proofs.Finds.{by_finds}
use Rattle.text.specs.Number.{whole_number}
use Rattle.lexical.proofs.WholeLaws.{whole_sound}
use Rattle.blocks.specs.declared.Row.{Row}
use Rattle.blocks.proofs.ValueLaws.{Reads}
use Rattle.description.specs.Describe.{Values}
use Rattle.description.specs.Fields.{word_field, in_range, range_field, whole_field}
use Rattle.description.proofs.DescribedLaws.{same_ok}
use Rattle.fields.specs.Field.{IsWord, WordIs, Unknown, NumberIs, WholeIs, FieldHas}
use Rattle.fields.proofs.Present.{present_some}
use Rattle.fields.proofs.WordLaws.{finds_code}

-- A whole number in a range.
pub range_sound : (least most : ℕ) (w : Option ℤ) {n : ℕ} → in_range least most w ≡ Some n → (w ≡ Some (pos n)) × (least ≤ n) × (n ≤ most)
range_sound least most None e = absurd (none_some e)
range_sound least most (Some (pos m)) {n} e =
    by_test (leb least m && leb m most)
    (λ t.
    let q : m ≡ n = same_Some m n (rw t at e) in
    let b = both_true (leb least m) (leb m most) t in
    rw (← q) (refl, leb-true least m b.0, leb-true m most b.1))
    (λ t. absurd (none_some (rw t at e)))
range_sound least most (Some (negsuc m)) e = absurd (none_some e)

-- ---- `Has v`: the field is there with the value v, and o is the value that is read

-- What the outcome of a word says.
pub data WordSays (Has : List ℕ → Type 0) (field : ℕ) (words : List (List ℕ)) (default : ℕ) : Outcome ℕ → Type 0 where
  known : {code : ℕ} → WordIs Has words default code → WordSays Has field words default (Ok code)
  unknown : Unknown Has words → WordSays Has field words default (refused 17 field)

module _ {Has : List ℕ → Type 0} {o : Option (List ℕ)} (reads : Reads Has o) where
  pub word_says : (field : ℕ) (words : List (List ℕ)) (default : ℕ) → WordSays Has field words default (word_field field words default o)
  unfolding word_field
  word_says field words default =
      by_finds reads.finds
      (λ v e h. by_finds (finds_code words v)
      (λ code q w. rw (e, q) (known (WordIs.given h w)))
      (λ q n. rw (e, q) (unknown (record { value = v; has = h; unknown = n }))))
      (λ e n. rw e (known (WordIs.absent n)))

  -- A word is not both known and unknown.
  pub not_both : {words : List (List ℕ)} {default code : ℕ} → WordIs Has words default code → Unknown Has words → ⊥
  not_both (WordIs.absent n) u = n u.value u.has
  not_both {words} (WordIs.given {code = code} h w) u = u.unknown code (subst (IsWord words code) (reads.one h u.has) w)

  pub number_says : (field most default : ℕ) {n : ℕ} → range_field field most default o ≡ Ok n → NumberIs Has most default n
  unfolding range_field
  number_says field most default {n} q =
      by_finds reads.finds
      (λ v e h. let r = range_sound 1 most (whole_number v) (present_some 18 field (in_range 1 most (whole_number v)) (rw e at q)) in
      NumberIs.given h (whole_sound v r.0) r.1 r.2)
      (λ e n. rw (← same_ok (rw e at q)) (NumberIs.absent n))

  pub whole_says : (field : ℕ) (default : ℤ) {z : ℤ} → whole_field field default o ≡ Ok z → WholeIs Has default z
  unfolding whole_field
  whole_says field default q =
      by_finds reads.finds
      (λ v e h. WholeIs.given h (whole_sound v (present_some 18 field (whole_number v) (rw e at q))))
      (λ e n. rw (← same_ok (rw e at q)) (WholeIs.absent n))

-- ---- The fields of a block

-- The fields of a block with the row are read by `look`.
abbrev pub ReadsFields : List ℕ → List Row → Row → Values → Type 0
ReadsFields s rows row look = (name : List ℕ) → Reads (FieldHas s rows row name) (look name)
