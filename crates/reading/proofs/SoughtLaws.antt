-- What a search among the statements of a header says of its entries.
use Rattle.std.specs.Prelude.{Option, None, Some}
use mathlib.Core.Path.{◌≡◌, refl, sym, ap, ◌∙◌}
use mathlib.Core.Logic.{◌≢◌}
use mathlib.Core.List.{List, []}
use Prim.Native.Nat.{ℕ}
use borrow.Author.Tests.{eq-eqb, ne_eqb}
use Rattle.text.specs.Fold.{fold, fold_table}
use Rattle.text.specs.Key.{strip, key_of}
use Rattle.text.specs.Whitespace.{whitespace}
use Rattle.header.specs.Entries.{value, lookup, value_in}
use Rattle.header.specs.Entry.{Entry}
use Rattle.header.specs.Lookup.{first_statement}
use Rattle.header.specs.Statements.{leading_statements}
use Rattle.header.specs.declared.Statement.{Statement}
use Rattle.blocks.specs.Counting.{counting, counting_in, size_value}
use Rattle.blocks.specs.Keys.{SizeKey, VersionKey, DataBlocksKey, BlockIDKey, BoundaryKey, HeaderSizeKey, BinarySizeKey, FileNameKey}
use Rattle.blocks.specs.Limits.{default_boundary}
use Rattle.blocks.specs.Reading.{number_or}
use Rattle.reading.specs.Counting.{counting_statements}
use Rattle.reading.specs.Entries.{entries_from}
use Rattle.reading.proofs.CountingLaws.{counting-entries}
use Rattle.reading.proofs.EntryLaws.{value_found_lem}

-- The keys that the code names are folded already.
pub record Folded : Type 0 where
  pub size : key_of SizeKey ≡ SizeKey
  pub binary_size : key_of BinarySizeKey ≡ BinarySizeKey
  pub header_size : key_of HeaderSizeKey ≡ HeaderSizeKey
  pub file_name : key_of FileNameKey ≡ FileNameKey
  pub boundary : key_of BoundaryKey ≡ BoundaryKey
  pub version : key_of VersionKey ≡ VersionKey
  pub data_blocks : key_of DataBlocksKey ≡ DataBlocksKey
  pub block_id : key_of BlockIDKey ≡ BlockIDKey

pub folded : Folded
unfolding key_of strip fold fold_table whitespace
folded =
    record { size = refl; binary_size = refl; header_size = refl; file_name = refl; boundary = refl; version = refl; data_blocks = refl; block_id = refl }

-- ---- What a search says of the entries

module _ (s : List ℕ) (from : ℕ) (k : List ℕ) where
  pub any_none : None ≡ first_statement s k (leading_statements s from) → value_in k (entries_from s from) ≡ None
  any_none e = value_found_lem s k (leading_statements s from) ∙ rw (sym e)

  pub any_some : {t : Statement} → Some t ≡ first_statement s k (leading_statements s from) → value_in k (entries_from s from) ≡ Some (value s t)
  any_some e = value_found_lem s k (leading_statements s from) ∙ rw (sym e)

  pub counting_none : None ≡ first_statement s k (counting_statements s (leading_statements s from)) → value_in k (counting (entries_from s from)) ≡ None
  counting_none e =
      rw (counting-entries s (leading_statements s from)) (value_found_lem s k (counting_statements s (leading_statements s from)) ∙ rw (sym e))

  pub counting_some : {t : Statement} → Some t ≡ first_statement s k (counting_statements s (leading_statements s from))
      → value_in k (counting (entries_from s from)) ≡ Some (value s t)
  counting_some e =
      rw (counting-entries s (leading_statements s from)) (value_found_lem s k (counting_statements s (leading_statements s from)) ∙ rw (sym e))

-- ---- By the kind of the file

module _ (kind : ℕ) (es : List Entry) where
  pub size_one : kind ≡ 1 → size_value kind es ≡ value_in SizeKey es
  unfolding size_value
  size_one e = rw (eq-eqb kind 1 e)

  pub size_two : kind ≢ 1 → size_value kind es ≡ value_in BinarySizeKey (counting es)
  unfolding size_value
  size_two n = rw (ne_eqb kind 1 n)

  pub counts_one : kind ≡ 1 → counting_in kind es ≡ []
  unfolding counting_in
  counts_one e = rw (eq-eqb kind 1 e)

  pub counts_two : kind ≢ 1 → counting_in kind es ≡ counting es
  unfolding counting_in
  counts_two n = rw (ne_eqb kind 1 n)

-- The size of the data.
module _ (kind : ℕ) (es : List Entry) {x : Option ℕ} where
  pub size_any : kind ≡ 1 → x ≡ number_or 0 0 (value_in (key_of SizeKey) es) → x ≡ number_or 0 0 (size_value kind es)
  size_any e q = rw (size_one kind es e) (q ∙ ap (λ (k : List ℕ). number_or 0 0 (value_in k es)) folded.size)

  pub size_counting : kind ≢ 1 → x ≡ number_or 0 0 (value_in (key_of BinarySizeKey) (counting es)) → x ≡ number_or 0 0 (size_value kind es)
  size_counting n q = rw (size_two kind es n) (q ∙ ap (λ (k : List ℕ). number_or 0 0 (value_in k (counting es))) folded.binary_size)

-- A value among those that count.
module _ (kind : ℕ) (es : List Entry) (k : List ℕ) where
  pub absent_one : kind ≡ 1 → value_in k (counting_in kind es) ≡ None
  unfolding lookup
  absent_one e = rw (counts_one kind es e)

  pub counted_two : kind ≢ 1 → key_of k ≡ k → {o : Option (List ℕ)} → value_in (key_of k) (counting es) ≡ o → value_in k (counting_in kind es) ≡ o
  counted_two n f q = rw (counts_two kind es n, sym f) q

-- The boundary that a general header gives.
pub boundary_number : (es : List Entry) {x : Option ℕ} → x ≡ number_or default_boundary 1 (value_in (key_of BoundaryKey) (counting es))
    → x ≡ number_or default_boundary 1 (value_in BoundaryKey (counting es))
boundary_number es q = q ∙ ap (λ (k : List ℕ). number_or default_boundary 1 (value_in k (counting es))) folded.boundary
