-- What the first statement of a header decides: the rules of the file and the role of its block, check by check.
use Rattle.std.specs.Prelude.{Option, None, Some}
use mathlib.Core.Path.{◌≡◌, sym, ap, ◌∙◌}
use mathlib.Core.Bool.{Bool, true, false, cond}
use mathlib.Core.List.{List, [], ◌∷◌}
use Prim.Native.Nat.{ℕ}
use Rattle.scan.specs.Byte.{same}
use Rattle.scan.proofs.Cases.{by_test}
use Rattle.text.specs.Key.{key_of}
use Rattle.header.specs.Entries.{value_in}
use Rattle.header.specs.Entry.{Entry}
use Rattle.blocks.specs.Judging.{rules_with, general_by, general_rules, rules_of}
use Rattle.blocks.specs.Counting.{first, is_edf_key, counting}
use Rattle.blocks.specs.Keys.{VersionKey, DataBlocksKey, BlockIDKey, BoundaryKey}
use Rattle.blocks.specs.Limits.{default_boundary, plain_boundary}
use Rattle.blocks.specs.Reading.{is_version, asked_for, number_or, identity_of}
use Rattle.blocks.specs.declared.FileRules.{FileRules}
use Rattle.blocks.specs.declared.Identity.{Identity}
use Rattle.judging.specs.First.{second_count, named_role}

-- A general header, check by check.
pub general_is : (e : Entry) (rest : List Entry)
    → general_rules (e ∷ rest)
    ≡ cond (is_version e.value) (general_by (second_count rest) (number_or default_boundary 1 (value_in BoundaryKey (counting (e ∷ rest))))) None
unfolding general_rules second_count
general_is e rest =
    by_test (is_version e.value)
    (λ v. by_test (same (first rest).key DataBlocksKey) (λ d. rw (v, d)) (λ d. rw (v, d)))
    (λ v. rw v)

-- A test of a key as it stands in the file against one that is folded already.
pub key_is : (j k l : List ℕ) {b c : Bool} → key_of j ≡ l → key_of k ≡ k → b ≡ same (key_of j) (key_of k) → b ≡ c → same l k ≡ c
key_is j k l p q e f = sym (ap (λ (x : List ℕ). same x k) p) ∙ sym (ap (same (key_of j)) q) ∙ sym e ∙ f

-- ---- With no statement

module _ {es : List Entry} (e : es ≡ []) where
  pub second_empty : None ≡ second_count es
  unfolding second_count same
  second_empty = rw e

  pub named_empty : None ≡ named_role es
  unfolding named_role same
  named_empty = rw e

  pub rules_empty : {x : Option FileRules} → x ≡ Some (rules_with 1 plain_boundary 0) → x ≡ rules_of es
  unfolding rules_of is_edf_key same
  rules_empty q = rw e q

-- ---- With a first one

module _ {es : List Entry} {f : Entry} {rest : List Entry} (e : es ≡ f ∷ rest) where
  -- EDF_DataBlocks.
  pub second_hit : same f.key DataBlocksKey ≡ true → (v : List ℕ) → v ≡ f.value → {x : Option ℕ} → x ≡ asked_for v → x ≡ second_count es
  unfolding second_count
  second_hit k v p q = rw (e, k) (q ∙ ap asked_for p)

  pub second_miss : same f.key DataBlocksKey ≡ false → None ≡ second_count es
  unfolding second_count
  second_miss k = rw (e, k)

  -- A general header.
  module _ (v : List ℕ) (p : v ≡ f.value) where
    versioned : {b : Bool} → is_version v ≡ b → is_version f.value ≡ b
    versioned q = ap is_version (sym p) ∙ q

    pub unversioned : is_version v ≡ false → None ≡ general_rules es
    unversioned q = rw (e, general_is f rest, versioned q)

    module _ (q : is_version v ≡ true) where
      pub uncounted : None ≡ second_count rest → None ≡ general_rules es
      uncounted c = rw (e, general_is f rest, versioned q, sym c)

      pub unbounded : {n : ℕ} → Some n ≡ second_count rest → None ≡ number_or default_boundary 1 (value_in BoundaryKey (counting es)) → None ≡ general_rules es
      unbounded c b = rw (e, general_is f rest, versioned q, sym c, sym (rw e at b))

      pub general_good : {n m : ℕ} → Some n ≡ second_count rest → Some m ≡ number_or default_boundary 1 (value_in BoundaryKey (counting es))
          → Some (rules_with 2 m n) ≡ general_rules es
      general_good c b = rw (e, general_is f rest, versioned q, sym c, sym (rw e at b))

  -- The rules of the file.
  pub rules_plain : is_edf_key f.key ≡ false → {x : Option FileRules} → x ≡ Some (rules_with 1 plain_boundary 0) → x ≡ rules_of es
  unfolding rules_of
  rules_plain k q = rw (e, k) q

  module _ (k : is_edf_key f.key ≡ true) where
    pub rules_version : same f.key VersionKey ≡ true → {x : Option FileRules} → x ≡ general_rules es → x ≡ rules_of es
    unfolding rules_of
    rules_version v q = rw (e, k, v) (rw e at q)

    pub rules_id : same f.key VersionKey ≡ false → same f.key BlockIDKey ≡ true → {x : Option FileRules}
        → x ≡ Some (rules_with 2 default_boundary 0) → x ≡ rules_of es
    unfolding rules_of
    rules_id v b q = rw (e, k, v, b) q

    pub rules_other : same f.key VersionKey ≡ false → same f.key BlockIDKey ≡ false → None ≡ rules_of es
    unfolding rules_of
    rules_other v b = rw (e, k, v, b)

  -- The role of a data block.
  pub named_miss : same f.key BlockIDKey ≡ false → None ≡ named_role es
  unfolding named_role
  named_miss k = rw (e, k)

  module _ (k : same f.key BlockIDKey ≡ true) (v : List ℕ) (p : v ≡ f.value) where
    pub named_bad : None ≡ identity_of v → None ≡ named_role es
    unfolding named_role
    named_bad q = rw (e, k, sym p, sym q)

    pub named_good : {i : Identity} → Some i ≡ identity_of v → Some (record { kind = 1; identity = i }) ≡ named_role es
    unfolding named_role
    named_good q = rw (e, k, sym p, sym q)
