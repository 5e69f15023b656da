-- The rules that the first header gives the file: `rules_of` against `Declares`.
use Rattle.std.specs.Prelude.{Some}
use mathlib.Core.Path.{◌≡◌, refl, sym, ap, ◌∙◌}
use mathlib.Core.Bool.{true, false}
use mathlib.Core.Logic.{◌≢◌}
use mathlib.Core.List.{List, []}
use Prim.Native.Nat.{ℕ}
use native.Mathlib.Omega.{arith}
use lib.ListN.{length}
use Rattle.scan.specs.Byte.{same}
use Rattle.scan.proofs.Cases.{by_test, by_option, none_some}
use Rattle.scan.proofs.Decides.{decided, refuted, passes, rejects, same_decides}
use Rattle.header.specs.Entries.{value_in}
use Rattle.header.specs.Entry.{Entry}
use Rattle.blocks.specs.Counting.{first, second, is_edf_key, counting}
use Rattle.blocks.specs.Grammar.{Rules, GeneralHeader, plain_rules, Declares, plain, data-first, general-first}
use Rattle.blocks.specs.Judging.{rules_with, general_rules, rules_of}
use Rattle.blocks.specs.Keys.{VersionKey, DataBlocksKey, BlockIDKey, BoundaryKey}
use Rattle.blocks.specs.Places.{kind_1, kind_2, HasKey, IsEdfKey, StartsWithEdfKey}
use Rattle.blocks.specs.Reading.{number_or, asked_for, is_version}
use Rattle.blocks.specs.declared.FileRules.{FileRules}
use Rattle.blocks.proofs.Coded.{kind_number, kinds_differ, asked_of, coded, Asking, counting_reads}
use Rattle.blocks.proofs.PlaceLaws.{DistinctKeys, has_key, key_at, value_at, starts_decides}
use Rattle.blocks.proofs.ValueLaws.{number_sound, number-complete, asked_sound, asked_complete, asked_positive}
use Rattle.blocks.proofs.VersionLaws.{version_sound, version_complete}

-- The keys that start a header of kind 2 are EDF_ keys, and differ.
version_edf : is_edf_key VersionKey ≡ true
unfolding is_edf_key same
version_edf = refl

id_edf : is_edf_key BlockIDKey ≡ true
unfolding is_edf_key same
id_edf = refl

id_not_version : same BlockIDKey VersionKey ≡ false
unfolding same
id_not_version = refl

pub same_itself : (k : List ℕ) → same k k ≡ true
same_itself k = passes (same_decides k k) refl

-- A key that is none of these bytes: it is not empty.
pub not_empty : {k : List ℕ} → length k ≢ 0 → k ≢ []
not_empty n e = n (ap length e)

-- The rules that are read are those of the grammar, as the code holds them.
pub record Declared (es : List Entry) (r : FileRules) : Type 0 where
  pub rules : Rules
  pub declares : Declares es rules
  pub are : coded rules ≡ r

module _ {es : List Entry} (distinct : DistinctKeys es) where
  -- ---- A general header

  general_sound : {r : FileRules} → (first es).key ≡ VersionKey → general_rules es ≡ Some r → Declared es r
  unfolding general_rules
  general_sound {r} k e =
      by_test (is_version (first es).value)
      (λ v. by_test (same (second es).key DataBlocksKey)
      (λ d. by_option (asked_for (second es).value)
      (λ a. absurd (none_some (rw (v, d, a) at e)))
      (λ n a. by_option (number_or 512 1 (value_in BoundaryKey (counting es)))
      (λ b. absurd (none_some (rw (v, d, a, b) at e)))
      (λ m b. made v d n a m b (rw (v, d, a, b) at e))))
      (λ d. absurd (none_some (rw (v, d) at e))))
      (λ v. absurd (none_some (rw v at e)))
    where
      made : is_version (first es).value ≡ true → same (second es).key DataBlocksKey ≡ true
          → (n : ℕ) → asked_for (second es).value ≡ Some n → (m : ℕ) → number_or 512 1 (value_in BoundaryKey (counting es)) ≡ Some m
          → Some (rules_with 2 m n) ≡ Some r → Declared es r
      made v d n a m b q = record {
        rules = record { kind = kind_2; boundary = m; general = Some n };
        declares = general-first (record {
          version = (first es).value;
          version_key = has_key es 0 (not_empty (λ z. omega arith)) k;
          version_is = version_sound v;
          blocks = (second es).value;
          blocks_key = has_key es 1 (not_empty (λ z. omega arith)) (decided (same_decides _ _) d);
          count = n;
          asks = asked_sound a;
          kind = refl;
          boundary = number_sound (counting_reads distinct BoundaryKey) b;
          general = refl;
        });
        are = cc;
      }

  general-complete : {r : Rules} → GeneralHeader es r → general_rules es ≡ Some (coded r)
  unfolding general_rules
  general-complete {r} g =
      rw (
        value_at g.version_key,
        version_complete g.version_is,
        key_at g.blocks_key,
        same_itself DataBlocksKey,
        value_at g.blocks_key,
        asked_complete g.asks,
        number-complete (counting_reads distinct BoundaryKey) g.boundary,
      )
      (ap Some (λ i. record { kind = kind_number (sym g.kind i); boundary = r.boundary; expected = asked_of (sym g.general i) }))

  -- ---- Any first header

  pub rules-sound : {r : FileRules} → rules_of es ≡ Some r → Declared es r
  unfolding rules_of
  rules-sound {r} e =
      by_test (is_edf_key (first es).key)
      (λ k. by_test (same (first es).key VersionKey)
      (λ v. general_sound (decided (same_decides _ _) v) (rw (k, v) at e))
      (λ v. by_test (same (first es).key BlockIDKey)
      (λ b. record {
        rules = plain_rules kind_2;
        declares = data-first (has_key es 0 (not_empty (λ z. omega arith)) (decided (same_decides _ _) b)) refl;
        are = let q : Some (rules_with 2 512 0) ≡ Some r = rw (k, v, b) at e in cc;
      })
      (λ b. absurd (none_some (rw (k, v, b) at e)))))
      (λ k. record {
        rules = plain_rules kind_1;
        declares = plain (refuted (starts_decides es) k) refl;
        are = let q : Some (rules_with 1 1 0) ≡ Some r = rw k at e in cc;
      })

  pub rules-complete : {r : Rules} → Declares es r → rules_of es ≡ Some (coded r)
  unfolding rules_of
  rules-complete (plain n e) = rw (rejects (starts_decides es) n) (ap (λ (x : Rules). Some (coded x)) (sym e))
  rules-complete (data-first k e) =
      rw (key_at k, id_edf, id_not_version, same_itself BlockIDKey) (ap (λ (x : Rules). Some (coded x)) (sym e))
  rules-complete (general-first g) = rw (key_at g.version_key, version_edf, same_itself VersionKey) (general-complete g)

-- A general header asks for some data blocks.
pub declares_asking : {es : List Entry} {r : Rules} → Declares es r → Asking r
declares_asking (plain k e) = record { some_asked = λ n g. absurd (none_some (sym (ap (λ (x : Rules). x.general) e) ∙ g)) }
declares_asking (data-first k e) = record { some_asked = λ n g. absurd (none_some (sym (ap (λ (x : Rules). x.general) e) ∙ g)) }
declares_asking {r = r} (general-first g) = record { some_asked = asked }
  where
    asked : (n : ℕ) → r.general ≡ Some n → n ≢ 0
    asked n h z =
        let same : ◌≡◌ (Some g.count) (Some n) = sym g.general ∙ h in
        let e : g.count ≡ n = cc in
        omega (arith, asked_positive g.asks)

-- ---- The kind that a first header gives

-- A key that the rules name for a first header is an EDF_ key.
starts_edf : {es : List Entry} {key value : List ℕ} → IsEdfKey key → HasKey es 0 key value → StartsWithEdfKey es
starts_edf i h = record { entry = h.entry; at = h.at; edf = rw h.key_is i }

module _ {es : List Entry} {r : Rules} where
  -- "A file is of kind 2 exactly if its first header has a statement and its key starts with `edf_`; else of kind 1."
  pub declares_edf : Declares es r → r.kind ≡ kind_2 → StartsWithEdfKey es
  declares_edf (plain n e) k = absurd (kinds_differ (sym (ap (λ (x : Rules). x.kind) e) ∙ k))
  declares_edf (data-first h e) k = starts_edf (record { rest = _; is = refl }) h
  declares_edf (general-first g) k = starts_edf (record { rest = _; is = refl }) g.version_key

  pub edf_declares : Declares es r → StartsWithEdfKey es → r.kind ≡ kind_2
  edf_declares (plain n e) h = absurd (n h)
  edf_declares (data-first d e) h = ap (λ (x : Rules). x.kind) e
  edf_declares (general-first g) h = g.kind

  pub plain_declares : Declares es r → (StartsWithEdfKey es → ⊥) → r ≡ plain_rules kind_1
  plain_declares (plain m e) n = e
  plain_declares (data-first h e) n = absurd (n (starts_edf (record { rest = _; is = refl }) h))
  plain_declares (general-first g) n = absurd (n (starts_edf (record { rest = _; is = refl }) g.version_key))
