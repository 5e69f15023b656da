-- The statements of a header in a file behind another: the same, or the same error, with their offsets moved by the length of the first.
use Rattle.std.specs.Prelude.{Option, None, Some, ℕ, option_map, Ok, Err}
use mathlib.Core.Path.{◌≡◌, refl, sym, ap, ◌∙◌}
use mathlib.Core.List.{List, ◌∷◌, ◌++◌, map}
use Prim.Native.Nat.{ℕ, zero, suc, ◌+◌, ◌≤◌}
use native.Mathlib.Omega.{arith}
use borrow.Author.Tests.{lt-ltb, le-ltb, ltb-true, ltb-false}
use lib.Dec.{ltb}
use lib.ListN.{length, length-append}
use lib.Seq.{take-append-add}
use Rattle.scan.specs.Search.{first_from, is}
use Rattle.scan.proofs.Cases.{by_test, by_option}
use Rattle.scan.proofs.Chains.{chain_unique}
use Rattle.scan.proofs.Finds.{Finds, found, missing, finds_some, finds_none}
use Rattle.text.specs.Text.{every}
use Rattle.text.specs.Whitespace.{visible}
use Rattle.header.specs.Entry.{body_of, key}
use Rattle.header.specs.Statements.{next_by, statement_at, continued, statements_within, statements_from, is_short, are_distinct, statements_of, Next, malformed}
use Rattle.header.specs.declared.Header.{Header}
use Rattle.header.specs.declared.Statement.{Statement}
use Rattle.header.proofs.StatementLaws.{finds-within, finds-statements}
use Rattle.header.proofs.Unambiguous.{statements-sure}
use Rattle.locality.specs.Moved.{moved_outcome, moved_header, moved_statement}
use Rattle.locality.proofs.EntryShift.{keys_shift, all_short_shift}
use Rattle.locality.proofs.Searches.{moved_found, search_shift}

-- ---- One statement

abbrev moved_next : ℕ → Next → Next
moved_next n (Ok (Some t)) = Ok (Some (moved_statement n t))
moved_next n (Ok None) = Ok None
moved_next n (Err m) = Err malformed

before_shift : (n d e : ℕ) → ltb (n + d) (n + e) ≡ ltb d e
before_shift n d e =
    by_test (ltb d e)
    (λ t. rw t (lt-ltb (n + d) (n + e) (omega (arith, ltb-true d e t))))
    (λ f. rw f (le-ltb (n + d) (n + e) (omega (arith, ltb-false d e f))))

next_shift : (n at : ℕ) (d f e : Option ℕ) → next_by (n + at) (moved_found n d) (moved_found n f) (moved_found n e) ≡ moved_next n (next_by at d f e)
next_shift n at None f e = refl
next_shift n at (Some d) None e = refl
next_shift n at (Some d) (Some f) None = refl
next_shift n at (Some d) (Some f) (Some e) =
    by_test (ltb d e)
    (λ t. by_test (ltb e f)
    (λ u. rw (before_shift n d e, before_shift n e f, t, u))
    (λ u. rw (before_shift n d e, before_shift n e f, t, u)))
    (λ t. rw (before_shift n d e, t))

-- ---- All of them: the count of `statements_from` may be larger

finds_same : {A : Type 0} {P : A → Type 0} {o q : Option A} → Finds P o → Finds P q → ((x y : A) → P x → P y → x ≡ y) → o ≡ q
finds_same (found {x = x} p) b one = sym (finds_some b (λ y k l. one y x k l) p)
finds_same (missing n) b one = sym (finds_none b n)

statements_count : (s : List ℕ) (m at : ℕ) → length s ≤ at + m → statements_within (suc m) s at ≡ statements_from s at
statements_count s m at h =
    finds_same (finds-within s m at h) (finds-statements s at) (λ x y. chain_unique (statements-sure s) at x y)

module _ (p s : List ℕ) where
  statement_shift : (at : ℕ) → statement_at (p ++ s) (length p + at) ≡ moved_next (length p) (statement_at s at)
  unfolding statement_at
  statement_shift at =
      rw (search_shift visible p s at, search_shift (is 59) p s at, search_shift (is 61) p s at)
      (next_shift (length p) at (first_from visible s at) (first_from (is 59) s at) (first_from (is 61) s at))

  moved_cons : (t : Statement) (o : Option (List Statement))
      → option_map (λ (ts : List Statement). moved_statement (length p) t ∷ ts) (option_map (map (moved_statement (length p))) o)
      ≡ option_map (map (moved_statement (length p))) (option_map (λ (ts : List Statement). t ∷ ts) o)
  moved_cons t None = refl
  moved_cons t (Some ts) = refl

  within_shift : (m at : ℕ) → statements_within m (p ++ s) (length p + at) ≡ option_map (map (moved_statement (length p))) (statements_within m s at)
  unfolding statements_within
  within_shift zero at = refl
  within_shift (suc m) at = rw (statement_shift at) (go (statement_at s at) (λ k. within_shift m k))
    where
      go : (x : Next) → ((k : ℕ) → statements_within m (p ++ s) (length p + k) ≡ option_map (map (moved_statement (length p))) (statements_within m s k))
          → continued (moved_next (length p) x) (λ next. statements_within m (p ++ s) next)
          ≡ option_map (map (moved_statement (length p))) (continued x (λ next. statements_within m s next))
      go (Ok (Some t)) more =
          let e : suc (length p + t.end) ≡ length p + suc t.end = omega arith in
          rw (e, more (suc t.end)) (moved_cons t (statements_within m s (suc t.end)))
      go (Ok None) more = refl
      go (Err m) more = refl

  statements_shift : (at : ℕ) → statements_from (p ++ s) (length p + at) ≡ option_map (map (moved_statement (length p))) (statements_from s at)
  unfolding statements_from
  statements_shift at =
      within_shift (suc (length (p ++ s))) at
      ∙ ap (option_map (map (moved_statement (length p)))) (statements_count s (length (p ++ s)) at (omega (arith, length-append p s)))

-- ---- Of a header

pub body_shift : (p s : List ℕ) (h : Header) → body_of (p ++ s) (moved_header (length p) h) ≡ p ++ body_of s h
body_shift p s h = take-append-add p s h.right

-- Errors 6, 7 and 8 included.
pub statements_of_shift : (p s : List ℕ) (start : ℕ) (h : Header)
    → statements_of (p ++ s) (length p + start) (moved_header (length p) h) ≡ moved_outcome (length p) (map (moved_statement (length p))) (statements_of s start h)
unfolding statements_of
statements_of_shift p s start h =
    let b = body_of s h in
    let next : suc (length p + h.left) ≡ length p + suc h.left = omega arith in
    rw (body_shift p s h, next, statements_shift p b (suc h.left))
    (by_option (statements_from b (suc h.left))
    (λ e. rw e)
    (λ ts e. by_test (every (is_short b) ts)
    (λ t. by_test (are_distinct (map (key b) ts))
    (λ d. rw (e, all_short_shift p b ts, t, keys_shift p b ts, d))
    (λ d. rw (e, all_short_shift p b ts, t, keys_shift p b ts, d)))
    (λ t. rw (e, all_short_shift p b ts, t))))
