-- `statements_of` answers the parse of the grammar exactly if there is one, and else the error of its case.
use Rattle.std.specs.Prelude.{Option, None, Some, Ok, Err, option_map}
use Rattle.scan.specs.Outcome.{Outcome, refused}
use mathlib.Core.Path.{◌≡◌, refl, sym}
use mathlib.Core.List.{List, [], ◌∷◌, map}
use Prim.Native.Nat.{ℕ, zero, suc, ◌+◌, ◌≤◌, ◌<◌}
use native.Mathlib.Omega.{arith}
use lib.ListN.{length}
use Rattle.scan.specs.Chain.{Chain}
use Rattle.scan.proofs.Cases.{by_test, none_some}
use Rattle.scan.proofs.Chains.{chain_unique}
use Rattle.scan.proofs.Decides.{decided, refuted, passes, rejects}
use Rattle.scan.proofs.Finds.{Finds, found, missing, by_finds, finds_some, finds_none}
use Rattle.text.specs.Text.{every}
use Rattle.header.specs.Cases.{Broken, BrokenBody, TooLong, KeyTwice, StatementsError}
use Rattle.header.specs.Entry.{body_of, key}
use Rattle.header.specs.Grammar.{StatementFrom, OnlyWhitespace, Parse}
use Rattle.header.specs.Statements.{statement_at, continued, statements_within, statements_from, Next}
use Rattle.header.specs.Statements.{is_short, are_distinct, statements_of}
use Rattle.header.specs.declared.Header.{Header}
use Rattle.header.specs.declared.Statement.{Statement}
use Rattle.header.proofs.OneStatement.{NextSays, statement_says, fault_dark, fault_none}
use Rattle.header.proofs.Rules.{all_short_decides, one_long, distinct_decides}
use Rattle.header.proofs.Unambiguous.{end_first}
use Rattle.header.proofs.Unambiguous.{statement-unique, not-only-whitespace, statements-sure}

-- ---- All statements

module _ (s : List ℕ) where
  abbrev pub EndToEnd : ℕ → List Statement → Type 0
  EndToEnd at ts = Chain (StatementFrom s) (OnlyWhitespace s) at ts

  -- A statement ends inside the file, after where it starts.
  pub statement_inside : {at n : ℕ} {t : Statement} → StatementFrom s at t n → (at < t.end) × (t.end < length s)
  statement_inside h = (omega (arith, h.starts, h.is.key_first, h.is.value_after), (end_first s h.is).inside)

  prepend : {at : ℕ} {t : Statement} {o : Option (List Statement)} → StatementFrom s at t (suc t.end)
      → Finds (EndToEnd (suc t.end)) o → Finds (EndToEnd at) (option_map (λ (ts : List Statement). t ∷ ts) o)
  prepend {t = t} h (found {x = ts} c) = found {x = t ∷ ts} (suc t.end, h, c)
  prepend {at} {t} h (missing n) = missing none_here
    where
      none_here : (us : List Statement) → EndToEnd at us → ⊥
      none_here [] w = not-only-whitespace s h w
      none_here (u ∷ us) c = n us (rw (statement-unique s h c.1).1 c.2)

  finds-continued : (at : ℕ) (next : Next) (go : ℕ → Option (List Statement)) → NextSays s at next
      → ((k : ℕ) → at < k → k ≤ length s → Finds (EndToEnd k) (go k)) → Finds (EndToEnd at) (continued next go)
  finds-continued at (Ok (Some t)) go h more =
      let l = statement_inside h in
      prepend h (more (suc t.end) (omega (arith, l)) l.1)
  finds-continued at (Ok None) go h more = found {x = []} h
  finds-continued at (Err m) go h more = missing none_here
    where
      none_here : (ts : List Statement) → EndToEnd at ts → ⊥
      none_here [] w = fault_dark s at h w
      none_here (t ∷ ts) c = fault_none s at h c.1

  pub finds-within : (n at : ℕ) → length s ≤ at + n → Finds (EndToEnd at) (statements_within (suc n) s at)
  unfolding statements_within
  finds-within zero at h = finds-continued at (statement_at s at) _ (statement_says s at) (λ k l u. absurd (omega arith))
  finds-within (suc n) at h =
      finds-continued at (statement_at s at) _ (statement_says s at) (λ k l u. finds-within n k (omega arith))

  -- `statements_from` finds the statements that stand end to end.
  pub finds-statements : (at : ℕ) → Finds (EndToEnd at) (statements_from s at)
  unfolding statements_from
  finds-statements at = finds-within (length s) at (omega arith)

  pub statements_are : (at : ℕ) (ts : List Statement) → EndToEnd at ts → statements_from s at ≡ Some ts
  statements_are at ts c =
      finds_some (finds-statements at) (λ us. chain_unique (statements-sure s) at us ts) c

  -- Where it finds none, they break off.
  broken-more : {at : ℕ} {t : Statement} → StatementFrom s at t (suc t.end) → Broken s (suc t.end) → Broken s at
  broken-more {t = t} h b = record {
    statements = t ∷ b.statements;
    end = b.end;
    before = (suc t.end, h, b.before);
    fault = b.fault;
  }

  continued-broken : (at : ℕ) (next : Next) (go : ℕ → Option (List Statement)) → NextSays s at next
      → ((k : ℕ) → at < k → k ≤ length s → go k ≡ None → Broken s k) → continued next go ≡ None → Broken s at
  continued-broken at (Ok (Some t)) go h more e =
      let l = statement_inside h in
      broken-more h (more (suc t.end) (omega (arith, l)) l.1 (map-none (go (suc t.end)) e))
    where
      map-none : (o : Option (List Statement)) → option_map (λ (ts : List Statement). t ∷ ts) o ≡ None → o ≡ None
      map-none None q = refl
      map-none (Some ts) q = absurd (none_some (sym q))
  continued-broken at (Ok None) go h more e = absurd (none_some (sym e))
  continued-broken at (Err m) go h more e = record { statements = []; end = at; before = refl; fault = h }

  within-broken : (n at : ℕ) → length s ≤ at + n → statements_within (suc n) s at ≡ None → Broken s at
  unfolding statements_within
  within-broken zero at h e = continued-broken at (statement_at s at) _ (statement_says s at) (λ k l u q. absurd (omega arith)) e
  within-broken (suc n) at h e =
      continued-broken at (statement_at s at) _ (statement_says s at) (λ k l u q. within-broken n k (omega arith) q) e

  pub statements-broken : (at : ℕ) → statements_from s at ≡ None → Broken s at
  unfolding statements_from
  statements-broken at e = within-broken (length s) at (omega arith) e

  -- And where they break off, no others stand.
  broken-none : {at : ℕ} → Broken s at → (us : List Statement) → EndToEnd at us → ⊥
  broken-none {at} b us c = go at b.statements us b.before c
    where
      go : (at : ℕ) (ts us : List Statement) → Chain (StatementFrom s) (λ k. k ≡ b.end) at ts → EndToEnd at us → ⊥
      go at [] [] q w = fault_dark s b.end b.fault (rw q at w)
      go at [] (u ∷ us) q d = fault_none s b.end b.fault (rw q at d.1)
      go at (t ∷ ts) [] d w = not-only-whitespace s d.1 w
      go at (t ∷ ts) (u ∷ us) d f = go d.0 ts us d.2 (rw (statement-unique s d.1 f.1).1 f.2)

  pub statements-none : {at : ℕ} → Broken s at → statements_from s at ≡ None
  statements-none {at} b = finds_none (finds-statements at) (broken-none b)

-- ---- The statements of a header

-- What an answer says.
abbrev pub StatementsSays : List ℕ → ℕ → Header → Outcome (List Statement) → Type 0
StatementsSays s at h (Ok ts) = Parse s h ts
StatementsSays s at h (Err e) = StatementsError s h at e

module _ (s : List ℕ) (at : ℕ) (h : Header) where
  abbrev body : List ℕ
  body = body_of s h

  pub statements_says : StatementsSays s at h (statements_of s at h)
  unfolding statements_of
  statements_says =
      by_finds (finds-statements body (suc h.left))
      (λ ts e c. rw e (by_test (every (is_short body) ts)
      (λ t. let short = decided (all_short_decides body ts) t in
      let distinct = distinct_decides (map (key body) ts) in
      rw t (by_test (are_distinct (map (key body) ts))
      (λ d. rw d (record { shape = c; short = short; distinct = decided distinct d }))
      (λ d. rw d (StatementsError.key_twice
      (record { statements = ts; shape = c; short = short; twice = refuted distinct d })))))
      (λ f. let l = one_long body ts f in
      rw f (StatementsError.too_long
      (record { statements = ts; shape = c; statement = l.0; member = l.1; long = l.2 })))))
      (λ e n. rw e (StatementsError.malformed (statements-broken body (suc h.left) e)))

  -- Each case has its answer.
  pub malformed_answer : BrokenBody s h → statements_of s at h ≡ refused 6 at
  unfolding statements_of
  malformed_answer b = rw (statements-none body b)

  pub too_long_answer : TooLong s h → statements_of s at h ≡ refused 7 at
  unfolding statements_of
  too_long_answer l =
      let ts = l.statements in
      rw (statements_are body (suc h.left) ts l.shape, rejects (all_short_decides body ts) (λ all. l.long (all l.statement l.member)))

  pub key_twice_answer : KeyTwice s h → statements_of s at h ≡ refused 8 at
  unfolding statements_of
  key_twice_answer k =
      let ts = k.statements in
      rw (
        statements_are body (suc h.left) ts k.shape,
        passes (all_short_decides body ts) k.short,
        rejects (distinct_decides (map (key body) ts)) k.twice,
      )

  pub statements_complete : {ts : List Statement} → Parse s h ts → statements_of s at h ≡ Ok ts
  unfolding statements_of
  statements_complete {ts} p =
      rw (
        statements_are body (suc h.left) ts p.shape,
        passes (all_short_decides body ts) p.short,
        passes (distinct_decides (map (key body) ts)) p.distinct,
      )

  pub statements_sound : {ts : List Statement} → statements_of s at h ≡ Ok ts → Parse s h ts
  statements_sound e = rw e at statements_says
