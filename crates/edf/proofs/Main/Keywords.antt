-- The main theorems about keywords and fields, for a file that has a partition. `Find`, `Describe` and the others are the contracts of the
-- calls of these names (specs/Calls); `HasKeyword`, `FieldsAre` and the others say what stands in the file (crates/fields/specs).
use Rattle.std.specs.Prelude.{None, Some, ℕ, Ok, Err, ℤ, slice_get}
use Rattle.scan.specs.Outcome.{Outcome, error_at}
use mathlib.Core.Path.{◌≡◌, refl, sym, subst, ◌∙◌}
use mathlib.Core.List.{List}
use mathlib.Core.Logic.Iff
use mathlib.Core.Logic.{◌≢◌, ◌↔◌}
use Prim.Native.Nat.{ℕ, ◌≤◌}
use lib.IntN.{ℤ}
use lib.ListN.{length}
-- ---- The calls, their answers, and the text of a value
use Rattle.scan.specs.Byte.{part_of}
use Rattle.scan.specs.declared.Span.{Span}
use Rattle.text.specs.Text.{text_of, short_text}
use Rattle.keyword.specs.declared.Origin.TheVariants as origin
use Rattle.description.specs.declared.Description.{Description}
use Rattle.edf.specs.Calls.{IntoBuffer, Find, WholeNumber, Text, Describe}
-- ---- What stands in the file
use Rattle.lexical.specs.Whole.{IsWhole}
use Rattle.header.specs.Entry.{Entry}
use Rattle.blocks.specs.Grammar.{Partition}
use Rattle.blocks.specs.Limits.{file_limit}
use Rattle.blocks.specs.Values.{Absent}
use Rattle.blocks.specs.declared.Row.{Row}
use Rattle.fields.specs.Field.{FieldHas, FieldsAre, UnknownField, TakesDefaults, TakesValues}
use Rattle.fields.specs.Keyword.{HasKeyword, LacksKeyword}
use Rattle.fields.specs.Origin.{EachOrigin, OriginsAre}
-- ---- Laws
use Rattle.description.proofs.DescribedLaws.{same_ok}
use Rattle.fields.proofs.Defaults.{defaults_by, values_by}
use Rattle.fields.proofs.Defaults as fields
use Rattle.fields.proofs.Descriptions as descriptions
use Rattle.fields.proofs.KeywordLaws.{keyword_missing, block_missing}
use Rattle.fields.proofs.OriginLaws.{each_map}
use Rattle.fields.proofs.ReadLaws.{found_at, found_none, value_is, number_is, number_bad, text_is, lacks_absent}
use Rattle.fields.proofs.ReadLaws.{not_found, no_number, no_text}
use Rattle.edf.proofs.CallLaws.{answers_as, refused_by}

module _ {s : List ℕ} {rows : List Row} (small : length s ≤ file_limit) (partition : Partition s rows) (block : ℕ) where
  -- ---- A block of the file, with its row

  module _ {row : Row} (at : slice_get rows block ≡ Some row) where
    -- `find` answers a span exactly if a statement in reach has the key and its value stands there; and the bytes there are that value.
    pub finds : {key : List ℕ} {r : Outcome Span} → Find s block key r → {span : Span}
        → (r ≡ Ok span) ↔ ((e : Entry) × HasKeyword s rows row key e × (e.span ≡ span))
    finds {key} {r} c {span} = Iff.trans (answers_as (Ok span) c.answers) (found_at small partition block at key)

    pub finds_bytes : {key : List ℕ} {span : Span} → Find s block key (Ok span) → {e : Entry} → HasKeyword s rows row key e
        → part_of s span ≡ e.value
    finds_bytes {key} c h = same_ok (c.bytes ∙ value_is small partition block at key h)

    -- It answers 16 exactly if none has it.
    pub finds_none : {key : List ℕ} {r : Outcome Span} → Find s block key r → (r ≡ Err (error_at 16 0)) ↔ LacksKeyword s rows row key
    finds_none {key} {r} c =
        Iff.trans (answers_as (Err (error_at 16 0)) c.answers) (found_none small partition block at key)

    -- `whole_number` answers the whole number that the value is; 18 exactly if it is none;
    pub reads_number : {key : List ℕ} {r : Outcome ℤ} → WholeNumber s block key r → {e : Entry} → HasKeyword s rows row key e → {z : ℤ}
        → (r ≡ Ok z) ↔ IsWhole e.value z
    reads_number {key} {r} c h {z} =
        Iff.trans (answers_as (Ok z) c.answers) (number_is small partition block at key h)

    pub reads_no_number : {key : List ℕ} {r : Outcome ℤ} → WholeNumber s block key r → {e : Entry} → HasKeyword s rows row key e
        → (r ≡ Err (error_at 18 0)) ↔ ((z : ℤ) → IsWhole e.value z → ⊥)
    reads_no_number {key} {r} c h =
        Iff.trans (answers_as (Err (error_at 18 0)) c.answers) (number_bad small partition block at key h)

    -- and 16 where no statement in reach has the key.
    pub number_missing : {key : List ℕ} {r : Outcome ℤ} → WholeNumber s block key r → LacksKeyword s rows row key
        → r ≡ Err (error_at 16 0)
    number_missing {key} {r} c n = (c.answers ∙ no_number s block key ((keyword_missing small partition block at key).1 n))

    -- `text` writes the text of the value, or gives 16 and leaves the buffer as before.
    pub reads_text : (key : List ℕ) {before after : List ℕ} {r : Outcome ℕ} → Text s block key before r after
        → {e : Entry} → HasKeyword s rows row key e → IntoBuffer (short_text (text_of e.value)) before r after
    reads_text key {before} {after} {r} c h =
        subst (λ (o : Outcome (List ℕ)). IntoBuffer o before r after) (text_is small partition block at key h) c

    pub text_missing : (key : List ℕ) {before after : List ℕ} {r : Outcome ℕ} → Text s block key before r after → LacksKeyword s rows row key
        → (r ≡ Err (error_at 16 0)) × (after ≡ before)
    text_missing key c n = refused_by (no_text s block key ((keyword_missing small partition block at key).1 n)) c

    -- `describe` gives the fields of the block.
    pub describes : {d : Description} → Describe s block (Ok d) → FieldsAre s rows row d
    describes c = descriptions.described_fields small partition block at (sym c.answers)

    -- A field takes its default exactly if `find` gives 16 for it; one that is found is the word or number that stands there.
    absent_exactly : {name : List ℕ} {r : Outcome Span} → Find s block name r
        → (r ≡ Err (error_at 16 0)) ↔ Absent (FieldHas s rows row name)
    absent_exactly c = Iff.trans (finds_none c) lacks_absent

    pub takes_defaults : {d : Description} → Describe s block (Ok d)
        → TakesDefaults (λ name o. Find s block name (Err (error_at 16 0))) d
    takes_defaults c = defaults_by (λ name o m. (absent_exactly m).0 refl) (fields.takes_defaults (describes c))

    pub takes_values : {d : Description} → Describe s block (Ok d)
        → TakesValues (λ name v. (span : Span) × Find s block name (Ok span) × (part_of s span ≡ v)) d
    takes_values c =
        values_by
        (λ name v m. let e = (finds m.1).0 refl in
        record { entry = e.0; keyword = e.1; value_is = sym (finds_bytes m.1 e.1) ∙ m.2 })
        (fields.takes_values (describes c))

    -- Each field came from where its origin says: from the own header exactly if that has the keyword, from the general header exactly if the
    -- own one has it not and the general one has it. The origin is default exactly if no header in reach has it, so exactly if `find`
    -- gives 16 for it.
    pub origins : {d : Description} → Describe s block (Ok d) → OriginsAre s rows row d.origins
    origins c = (describes c).origins

    pub default_origins : {d : Description} → Describe s block (Ok d)
        → EachOrigin (λ name o. (r : Outcome Span) → Find s block name r → (o ≡ origin.Default) ↔ (r ≡ Err (error_at 16 0))) d.origins
    default_origins c = each_map (λ name o from r f. Iff.trans from.default (Iff.symm (finds_none f))) (origins c)

    -- Such a field has its default.
    pub assumes_defaults : {d : Description} → Describe s block (Ok d) → TakesDefaults (λ name o. o ≡ origin.Default) d
    assumes_defaults c = fields.assumes_defaults (describes c)

    -- It gives 17 at a field exactly if the word of that field is the first that is unknown.
    pub unknown_word : row.kind ≡ 1 → {r : Outcome Description} → Describe s block r → {k : ℕ}
        → (r ≡ Err (error_at 17 k)) ↔ UnknownField s rows row k
    unknown_word kind {r} c {k} =
        Iff.trans (answers_as (Err (error_at 17 k)) c.answers) (descriptions.unknown_word small partition block at kind)

    -- Of a general block it gives 16.
    pub describe_general : row.kind ≢ 1 → {r : Outcome Description} → Describe s block r → r ≡ Err (error_at 16 0)
    describe_general kind {r} c = (c.answers ∙ descriptions.general_refused small partition block at kind)

  -- ---- No such block: 16

  module _ (at : slice_get rows block ≡ None) where
    pub find_no_block : {key : List ℕ} {r : Outcome Span} → Find s block key r → r ≡ Err (error_at 16 0)
    find_no_block {key} {r} c = (c.answers ∙ not_found s block key (block_missing small partition block at key))

    pub number_no_block : {key : List ℕ} {r : Outcome ℤ} → WholeNumber s block key r → r ≡ Err (error_at 16 0)
    number_no_block {key} {r} c = (c.answers ∙ no_number s block key (block_missing small partition block at key))

    pub text_no_block : (key : List ℕ) {before after : List ℕ} {r : Outcome ℕ} → Text s block key before r after
        → (r ≡ Err (error_at 16 0)) × (after ≡ before)
    text_no_block key c = refused_by (no_text s block key (block_missing small partition block at key)) c

    pub describe_no_block : {r : Outcome Description} → Describe s block r → r ≡ Err (error_at 16 0)
    describe_no_block {r} c = (c.answers ∙ descriptions.description_missing small partition block at)
