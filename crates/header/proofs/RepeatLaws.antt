-- Whether a key is that of a statement before: by a hash table, with an exact comparison where the hash is in it already.
use Rattle.std.specs.Prelude.{Ok, Err, Some, None}
use mathlib.Core.Path.{◌≡◌, refl, sym, subst, ◌∙◌}
use mathlib.Core.Bool.{Bool, false, ◌||◌}
use mathlib.Core.List.Memᴰ
use mathlib.Core.List.{List, [], ◌∷◌, ◌++◌, map}
use mathlib.Core.Logic.{⊎_elim}
use Prim.Native.Nat.{ℕ, zero, suc, ◌≤◌, ◌<◌}
use native.Mathlib.Omega.{arith}
use borrow.Author.Tests.{lt-ltb, le-ltb}
use lib.ListN.{length}
use Rattle.scan.specs.Byte.{same}
use Rattle.scan.proofs.Cases.{by_test}
use Rattle.scan.proofs.Decides.{decided, refuted, passes, rejects, same_decides}
use Rattle.header.specs.Entry.{key}
use Rattle.header.specs.Hash.{hash_of, slot_of, Contains, Inserted, ContainsKeys}
use Rattle.header.specs.Lookup.{first_statement}
use Rattle.header.specs.Repeats.{StatementsTo, starts_before, KeyInserted}
use Rattle.header.specs.Statements.{statement_at, followed, leading_within, leading_statements, among, Next}
use Rattle.header.specs.declared.Statement.{Statement}
use Rattle.header.proofs.Leading.{leading-one}
use Rattle.header.proofs.Rules.{among_decides}
use Rattle.header.proofs.OneStatement.{NextSays, statement_says}
use Rattle.header.proofs.StatementLaws.{statement_inside}

pub same_sym : (j k : List ℕ) → same j k ≡ same k j
same_sym j k =
    by_test (same k j)
    (λ e. passes (same_decides j k) (sym (decided (same_decides k j) e)) ∙ sym e)
    (λ e. rejects (same_decides j k) (λ q. refuted (same_decides k j) e (sym q)) ∙ sym e)

module _ (s : List ℕ) where
  -- ---- A key that is looked up is that of an earlier statement if what is found starts earlier

  up_to : (at to : ℕ) (ts : List Statement) → StatementsTo s at ts to → at ≤ to
  up_to at to [] c = omega arith
  up_to at to (t ∷ ts) c = omega (arith, c.1.ends, statement_inside s c.1, up_to c.0 to ts c.2)

  not_before_next : (to n at : ℕ) (k : List ℕ) (next : Next) → NextSays s at next → to ≤ at
      → ((i : ℕ) → to ≤ i → starts_before to (first_statement s k (leading_within n s i)) ≡ false)
      → starts_before to (first_statement s k (followed next (λ i. leading_within n s i))) ≡ false
  unfolding first_statement
  not_before_next to n at k (Ok (Some t)) h l rest =
      by_test (same (key s t) k)
      (λ e. rw e (le-ltb t.first to (omega (arith, h.starts))))
      (λ e. rw e (rest (suc t.end) (omega (arith, statement_inside s h))))
  not_before_next to n at k (Ok None) h l rest = refl
  not_before_next to n at k (Err m) h l rest = refl

  not_before : (to n at : ℕ) (k : List ℕ) → to ≤ at → starts_before to (first_statement s k (leading_within n s at)) ≡ false
  unfolding leading_within first_statement
  not_before to zero at k l = refl
  not_before to (suc n) at k l =
      not_before_next to n at k (statement_at s at) (statement_says s at) l (λ i m. not_before to n i k m)

  none_before : (k : List ℕ) (at to : ℕ) → at ≡ to → starts_before to (first_statement s k (leading_statements s at)) ≡ false
  unfolding leading_statements
  none_before k at to e = not_before to (suc (length s)) at k (omega arith)

  one_before : (k : List ℕ) (to : ℕ) (t : Statement) (us : List Statement) (b : Bool) → t.first < to
      → starts_before to (first_statement s k us) ≡ b
      → starts_before to (first_statement s k (t ∷ us)) ≡ (same k (key s t) || b)
  unfolding first_statement
  one_before k to t us b l rest =
      by_test (same (key s t) k)
      (λ e. rw (same_sym k (key s t), e) (lt-ltb t.first to l))
      (λ e. rw (same_sym k (key s t), e) rest)

  pub earlier_among : (k : List ℕ) (at to : ℕ) (ts : List Statement) → StatementsTo s at ts to
      → starts_before to (first_statement s k (leading_statements s at)) ≡ among k (map (key s) ts)
  unfolding among
  earlier_among k at to [] c = none_before k at to c
  earlier_among k at to (t ∷ ts) c =
      rw (leading-one s c.1)
      (one_before k to t (leading_statements s c.0) (among k (map (key s) ts))
      (omega (arith, c.1.starts, c.1.ends, statement_inside s c.1, up_to c.0 to ts c.2))
      (earlier_among k c.0 to ts c.2))

-- ---- The table and the comparison

module _ (s : List ℕ) (from to slots : ℕ) (k l l' : List ℕ) where
  -- A key whose hash is not in a table that contains the others is none of them.
  none_of : (ks : List (List ℕ)) → ContainsKeys slots l ks → (Contains l (slot_of slots (hash_of k)) (hash_of k) → ⊥) → false ≡ among k ks
  none_of ks h n = sym (rejects (among_decides k ks) (λ m. n (h k m)))

  abbrev AtSlot : Bool → ℕ → Type 0
  AtSlot r h = Inserted l l' (slot_of slots h) h r

  at_slot : {h q : ℕ} {r : Bool} → h ≡ hash_of k → q ≡ slot_of slots h → Inserted l l' q h r → AtSlot r (hash_of k)
  at_slot {h} {q} {r} e f a = subst (AtSlot r) e (subst (λ (x : ℕ). Inserted l l' x h r) f a)

  contained_more : {r : Bool} → Inserted l l' (slot_of slots (hash_of k)) (hash_of k) r
      → (ks : List (List ℕ)) → ContainsKeys slots l ks → ContainsKeys slots l' (ks ++ (k ∷ []))
  contained_more a ks h j m =
      ⊎_elim (λ n. a.kept _ _ (h j n))
      (λ n. subst (λ (x : List ℕ). Contains l' (slot_of slots (hash_of x)) (hash_of x)) (sym (Memᴰ.eq_of_singleton n)) a.contained)
      (Memᴰ.append_cases ks m)

  -- The hash was not in the table.
  pub key_new : {h q : ℕ} → h ≡ hash_of k → q ≡ slot_of slots h → Inserted l l' q h false → KeyInserted s from to slots k l l' false
  key_new e f a = record {
    repeated = λ ts c h. none_of (map (key s) ts) h ((at_slot e f a).new refl);
    contained = contained_more (at_slot e f a);
  }

  -- It may have been, and the key was looked up.
  pub key_looked_up : {h q : ℕ} {p r : Bool} → h ≡ hash_of k → q ≡ slot_of slots h → Inserted l l' q h p
      → r ≡ starts_before to (first_statement s k (leading_statements s from)) → KeyInserted s from to slots k l l' r
  key_looked_up e f a b = record {
    repeated = λ ts c h. b ∙ earlier_among s k from to ts c;
    contained = contained_more (at_slot e f a);
  }
