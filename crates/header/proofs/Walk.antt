-- The walk over a header's statements that makes all checks: its turns, and its answers.
use Rattle.std.specs.Prelude.{Ok, Err, Some, None}
use Rattle.scan.specs.Outcome.{refused}
use mathlib.Core.Path.{◌≡◌, refl, sym, ap, ◌∙◌}
use mathlib.Core.Bool.{Bool, true, false, not, ◌&&◌, ◌||◌, and-true, and-false, and_assoc, or-false, or_assoc, not-not}
use mathlib.Core.List.Memᴰ
use mathlib.Core.List.{List, [], ◌∷◌, ◌++◌, map}
use Prim.Native.Nat.{ℕ, suc, ◌+◌}
use native.Mathlib.Numerals.{add-one}
use Rattle.scan.specs.Byte.{same}
use Rattle.scan.proofs.Cases.{by_test, clash}
use Rattle.scan.proofs.Chains.{chain_more}
use Rattle.text.specs.Text.{every}
use Rattle.header.specs.Checks.{rules_checked, statements_checked}
use Rattle.header.specs.Entry.{key}
use Rattle.header.specs.Grammar.{StatementFrom, OnlyWhitespace}
use Rattle.header.specs.Hash.{ContainsKeys}
use Rattle.header.specs.Repeats.{StatementsTo, StillDistinct}
use Rattle.header.specs.Statements.{statement_at, is_short, among, are_distinct, malformed}
use Rattle.header.specs.declared.Statement.{Statement}
use Rattle.header.proofs.Leading.{statement-stands}
use Rattle.header.proofs.OneStatement.{NextSays, statement_says}
use Rattle.header.proofs.RepeatLaws.{same_sym}
use Rattle.header.proofs.StatementLaws.{EndToEnd, statements_are, statements-none}

-- ---- One more at the end of a list

every_more : {A : Type 0} (p : A → Bool) (xs : List A) (x : A) → every p (xs ++ (x ∷ [])) ≡ (every p xs && p x)
every_more p [] x = and-true (p x)
every_more p (y ∷ xs) x = ap (λ (b : Bool). p y && b) (every_more p xs x) ∙ sym (and_assoc (p y) (every p xs) (p x))

among_more : (j : List ℕ) (ks : List (List ℕ)) (k : List ℕ) → among j (ks ++ (k ∷ [])) ≡ (among j ks || same j k)
unfolding among
among_more j [] k = or-false (same j k)
among_more j (i ∷ ks) k = ap (λ (b : Bool). same j i || b) (among_more j ks k) ∙ sym (or_assoc (same j i) (among j ks) (same j k))

-- a: j is among the others; b: j is k; c: the others are distinct; d: k is among them.
regrouped : (a b c d : Bool) → (not (a || b) && (c && not d)) ≡ ((not a && c) && not (b || d))
regrouped true b c d = refl
regrouped false true c d = sym (and-false c)
regrouped false false c d = refl

distinct_more : (ks : List (List ℕ)) (k : List ℕ) → are_distinct (ks ++ (k ∷ [])) ≡ (are_distinct ks && not (among k ks))
unfolding are_distinct among
distinct_more [] k = refl
distinct_more (j ∷ ks) k =
    rw (among_more j ks k, distinct_more ks k, same_sym k j)
    (regrouped (among j ks) (same j k) (are_distinct ks) (among k ks))

keys_more : (s : List ℕ) (ts : List Statement) (t : Statement) → map (key s) (ts ++ (t ∷ [])) ≡ map (key s) ts ++ (key s t ∷ [])
keys_more s [] t = refl
keys_more s (u ∷ ts) t = ap (λ (ks : List (List ℕ)). key s u ∷ ks) (keys_more s ts t)

-- ---- The walk

-- The statements passed from `from` up to `at`: whether all are short, whether their keys are distinct, and that the table l
-- contains these as long as they are.
pub record Passed (s : List ℕ) (from slots : ℕ) (l : List ℕ) (short distinct : Bool) (at : ℕ) : Type 0 where
  pub statements : List Statement
  pub chain : StatementsTo s from statements at
  pub all_short : every (is_short s) statements ≡ short
  pub all_distinct : are_distinct (map (key s) statements) ≡ distinct
  pub contained : distinct ≡ true → ContainsKeys slots l (map (key s) statements)

-- A table may hold anything at the start: what it lacks is what counts.
pub passed_start : (s : List ℕ) (from slots : ℕ) (l : List ℕ) → Passed s from slots l true true from
unfolding are_distinct
passed_start s from slots l = record {
  statements = [];
  chain = refl;
  all_short = refl;
  all_distinct = refl;
  contained = λ e k m. absurd (Memᴰ.not-nil m);
}

module _ (s : List ℕ) (from slots : ℕ) {l : List ℕ} (short distinct : Bool) (at : ℕ) (p : Passed s from slots l short distinct at) where
  abbrev keys : List (List ℕ)
  keys = map (key s) p.statements

  -- ---- A turn

  module _ (t : Statement) (e : statement_at s at ≡ Ok (Some t)) {l' : List ℕ} (r : Bool) (h : StillDistinct s from slots t distinct l l' r) where
    -- They stand up to where t starts.
    up_to_first : StatementsTo s from p.statements t.first
    up_to_first = rw (statement-stands s at t e).starts p.chain

    still_distinct : (distinct && not (among (key s t) keys)) ≡ r
    still_distinct =
        by_test distinct
        (λ d. rw d (not_both ((h.inserted d).repeated p.statements up_to_first (p.contained d))))
        (λ d. rw (d, h.skipped d))
      where
        not_both : {a : Bool} → not r ≡ a → not a ≡ r
        not_both q = sym (ap not q) ∙ not-not r

    still-contained : r ≡ true → ContainsKeys slots l' (keys ++ (key s t ∷ []))
    still-contained q =
        by_test distinct
        (λ d. (h.inserted d).contained keys (p.contained d))
        (λ d. absurd (clash r q (h.skipped d)))

    pub passed_more : {q : Bool} → q ≡ (short && is_short s t) → Passed s from slots l' q r (t.end + 1)
    passed_more q = record {
      statements = p.statements ++ (t ∷ []);
      chain = rw (add-one t.end) (chain_more (StatementFrom s) at (suc t.end) t (statement-stands s at t e) from p.statements p.chain);
      all_short = every_more (is_short s) p.statements t ∙ rw p.all_short (sym q);
      all_distinct = rw (keys_more s p.statements t, distinct_more keys (key s t), p.all_distinct) still_distinct;
      contained = rw (keys_more s p.statements t) still-contained;
    }

  -- ---- The end

  module _ (start : ℕ) where
    pub passed_malformed : statement_at s at ≡ Err malformed → statements_checked s from start ≡ refused 6 start
    unfolding statements_checked
    passed_malformed e =
        let fault : NextSays s at (Err malformed) = rw e at (statement_says s at) in
        rw (statements-none s (record { statements = p.statements; end = at; before = p.chain; fault = fault }))

    end_to_end : (k : ℕ) (ts : List Statement) → StatementsTo s k ts at → OnlyWhitespace s at → EndToEnd s k ts
    end_to_end k [] c w = rw c w
    end_to_end k (t ∷ ts) c w = (c.0, c.1, end_to_end c.0 ts c.2 w)

    pub passed_end : statement_at s at ≡ Ok None → statements_checked s from start ≡ rules_checked short distinct start
    unfolding statements_checked
    passed_end e =
        let rest : NextSays s at (Ok None) = rw e at (statement_says s at) in
        rw (statements_are s from p.statements (end_to_end from p.statements p.chain rest), p.all_short, p.all_distinct)
