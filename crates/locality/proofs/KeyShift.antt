-- The rules on keys see keys and values, and no spans: what a header says is judged the same where its entries are moved.
use Rattle.std.specs.Prelude.{Option, None, Some, is_none, option_map}
use mathlib.Core.Path.{◌≡◌, refl}
use mathlib.Core.Bool.{Bool, true, false}
use mathlib.Core.List.{List, [], ◌∷◌, map}
use Prim.Native.Nat.{ℕ, ◌+◌}
use native.Mathlib.Omega.{arith}
use borrow.Author.Tests.{le-leb, lt-leb, leb-true, leb-false}
use lib.Dec.{eqb, leb}
use Rattle.scan.specs.Byte.{same}
use Rattle.scan.proofs.Cases.{by_test, by_option}
use Rattle.header.specs.Entries.{lookup, value_in}
use Rattle.header.specs.Entry.{Entry}
use Rattle.blocks.specs.Counting.{first, second, is_edf_key, counting, counting_in, size_value}
use Rattle.blocks.specs.Judging.{general_rules, rules_of, rules_for, role_of, is_whole_or_absent, length_allowed, judged}
use Rattle.blocks.specs.Keys.{BoundaryKey, SizeKey, BinarySizeKey, HeaderSizeKey, FileNameKey}
use Rattle.blocks.specs.Reading.{number_or}
use Rattle.blocks.specs.declared.FileRules.{FileRules}
use Rattle.locality.specs.Moved.{moved_outcome, moved_entry, moved_accepted}

module _ (n : ℕ) where
  abbrev moved : List Entry → List Entry
  moved es = map (moved_entry n) es

  -- ---- Keys and values

  pub lookup_moved : (k : List ℕ) (es : List Entry) → lookup k (moved es) ≡ option_map (moved_entry n) (lookup k es)
  unfolding lookup
  lookup_moved k [] = refl
  lookup_moved k (e ∷ es) = by_test (same e.key k) (λ t. rw t) (λ f. rw f (lookup_moved k es))

  pub value_kept : (o : Option Entry) → option_map (λ (e : Entry). e.value) (option_map (moved_entry n) o) ≡ option_map (λ (e : Entry). e.value) o
  value_kept None = refl
  value_kept (Some e) = refl

  value_moved : (k : List ℕ) (es : List Entry) → value_in k (moved es) ≡ value_in k es
  value_moved k es = rw (lookup_moved k es) (value_kept (lookup k es))

  first_key_moved : (es : List Entry) → (first (moved es)).key ≡ (first es).key
  first_key_moved [] = refl
  first_key_moved (e ∷ es) = refl

  first_value_moved : (es : List Entry) → (first (moved es)).value ≡ (first es).value
  first_value_moved [] = refl
  first_value_moved (e ∷ es) = refl

  second-key_moved : (es : List Entry) → (second (moved es)).key ≡ (second es).key
  second-key_moved [] = refl
  second-key_moved (e ∷ []) = refl
  second-key_moved (e ∷ (d ∷ es)) = refl

  second-value_moved : (es : List Entry) → (second (moved es)).value ≡ (second es).value
  second-value_moved [] = refl
  second-value_moved (e ∷ []) = refl
  second-value_moved (e ∷ (d ∷ es)) = refl

  -- ---- The keys that count

  counting_moved : (es : List Entry) → counting (moved es) ≡ moved (counting es)
  unfolding counting
  counting_moved [] = refl
  counting_moved (e ∷ es) = by_test (is_edf_key e.key) (λ t. rw (t, counting_moved es)) (λ f. rw f)

  counted_moved : (kind : ℕ) (k : List ℕ) (es : List Entry) → value_in k (counting_in kind (moved es)) ≡ value_in k (counting_in kind es)
  unfolding counting_in
  counted_moved kind k es =
      by_test (eqb kind 1) (λ t. rw t) (λ f. rw (f, counting_moved es) (value_moved k (counting es)))

  size_moved : (kind : ℕ) (es : List Entry) → size_value kind (moved es) ≡ size_value kind es
  unfolding size_value
  size_moved kind es =
      by_test (eqb kind 1) (λ t. rw t (value_moved SizeKey es))
      (λ f. rw (f, counting_moved es) (value_moved BinarySizeKey (counting es)))

  -- ---- The rules of the file

  general_moved : (es : List Entry) → general_rules (moved es) ≡ general_rules es
  unfolding general_rules
  general_moved es =
      rw (first_value_moved es, second-key_moved es, second-value_moved es, counting_moved es, value_moved BoundaryKey (counting es))

  rules_of_moved : (es : List Entry) → rules_of (moved es) ≡ rules_of es
  unfolding rules_of
  rules_of_moved es = rw (first_key_moved es, general_moved es)

  pub rules_for_moved : (given : FileRules) (b : Bool) (es : List Entry) → rules_for given b (moved es) ≡ rules_for given b es
  rules_for_moved given true es = rules_of_moved es
  rules_for_moved given false es = refl

  -- ---- The block

  role_of_moved : (r : FileRules) (b : Bool) (es : List Entry) → role_of r b (moved es) ≡ role_of r b es
  unfolding role_of
  role_of_moved r b es = rw (first_key_moved es, first_value_moved es)

  length_moved : (r : FileRules) (es : List Entry) (header : ℕ) → length_allowed r (moved es) header ≡ length_allowed r es header
  unfolding length_allowed
  length_moved r es header = rw (counted_moved r.kind HeaderSizeKey es)

  inside_moved : (start header size end : ℕ) → leb (n + start + header + size) (n + end) ≡ leb (start + header + size) end
  inside_moved start header size end =
      by_test (leb (start + header + size) end)
      (λ t. rw t (le-leb (n + start + header + size) (n + end) (omega (arith, leb-true (start + header + size) end t))))
      (λ f. rw f (lt-leb (n + start + header + size) (n + end) (omega (arith, leb-false (start + header + size) end f))))

  -- Errors 9 to 12 included.
  pub judged_moved : (r : FileRules) (b : Bool) (end start header : ℕ) (es : List Entry)
      → judged r b (n + end) (n + start) header (moved es) ≡ moved_outcome n (moved_accepted n) (judged r b end start header es)
  unfolding judged
  judged_moved r b end start header es =
      rw (role_of_moved r b es, size_moved r.kind es, counted_moved r.kind HeaderSizeKey es, counted_moved r.kind FileNameKey es, length_moved r es header)
      (by_option (role_of r b es)
      (λ e. rw e)
      (λ role e. by_option (number_or 0 0 (size_value r.kind es))
      (λ f. rw (e, f))
      (λ size f. by_test (is_whole_or_absent (value_in HeaderSizeKey (counting_in r.kind es)))
      (λ w. by_test (is_none (value_in FileNameKey (counting_in r.kind es)))
      (λ x. by_test (length_allowed r es header)
      (λ l. by_test (leb (start + header + size) end)
      (λ i.
      let a : n + start + header + size ≡ n + (start + header + size) = omega arith in
      rw (e, f, w, x, l, inside_moved start header size end, i, a))
      (λ i. rw (e, f, w, x, l, inside_moved start header size end, i)))
      (λ l. rw (e, f, w, x, l)))
      (λ x. rw (e, f, w, x)))
      (λ w. rw (e, f, w)))))
