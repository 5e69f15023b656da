-- The leading statements: an equation without a count, and the statements of a well-formed body.
use Rattle.std.specs.Prelude.{Some, Ok, Err, None}
use mathlib.Core.Path.{◌≡◌, refl, ap, sym, ◌∙◌}
use mathlib.Core.List.{List, [], ◌∷◌}
use Prim.Native.Nat.{ℕ, zero, suc, ◌+◌, ◌-◌, ◌≤◌, ◌<◌}
use native.Mathlib.Omega.{arith}
use lib.ListN.{length, take, drop}
use Rattle.scan.specs.Byte.{between}
use Rattle.scan.proofs.Cases.{by_order}
use Rattle.scan.proofs.Finds.{Finds, found}
use Rattle.text.specs.Key.{key_of}
use Rattle.header.specs.Entry.{key}
use Rattle.header.specs.Grammar.{StatementFrom, OnlyWhitespace}
use Rattle.header.specs.Statements.{statement_at, statements_from, followed, leading_within, leading_statements, Next, malformed}
use Rattle.header.specs.declared.Statement.{Statement}
use Rattle.header.proofs.OneStatement.{NextSays, statement_says, fault_dark, fault_none}
use Rattle.header.proofs.StatementLaws.{EndToEnd, statement_inside, finds-statements}
use Rattle.header.proofs.Unambiguous.{statement-unique, not-only-whitespace}

-- The bytes from one offset up to another, as code that takes a part of a slice says it.
pub part_between : (from n : ℕ) (l : List ℕ) → take n (drop from l) ≡ drop from (take (from + n) l)
part_between zero n l = let e : zero + n ≡ n = omega arith in rw e
part_between (suc from) zero [] = let e : suc from + zero ≡ suc from = omega arith in rw e
part_between (suc from) (suc n) [] = let e : suc from + suc n ≡ suc (from + suc n) = omega arith in rw e
part_between (suc from) n (x ∷ l) = let e : suc from + n ≡ suc (from + n) = omega arith in rw e (part_between from n l)

pub part_is : (s : List ℕ) (from to : ℕ) → from ≤ to → take (to - from) (drop from s) ≡ between s from to
part_is s from to h =
    let e : from + (to - from) ≡ to = omega arith in rw (part_between from (to - from) s, e)

module _ (s : List ℕ) where
  -- ---- One statement

  -- The statement that stands at an offset is answered there,
  pub statement_answer : {at next : ℕ} {t : Statement} → StatementFrom s at t next → statement_at s at ≡ Ok (Some t)
  statement_answer {at} {t = t} h = go (statement_at s at) (statement_says s at)
    where
      go : (n : Next) → NextSays s at n → n ≡ Ok (Some t)
      go (Ok (Some u)) x = ap (λ (u : Statement). Ok (Some u)) (statement-unique s x h).0
      go (Ok None) x = absurd (not-only-whitespace s h x)
      go (Err m) x = absurd (fault_none s at x h)

  -- and the end where only whitespace is left.
  pub end-answer : {at : ℕ} → OnlyWhitespace s at → statement_at s at ≡ Ok None
  end-answer {at} w = go (statement_at s at) (statement_says s at)
    where
      go : (n : Next) → NextSays s at n → n ≡ Ok None
      go (Ok (Some u)) x = absurd (not-only-whitespace s x w)
      go (Ok None) x = refl
      go (Err m) x = absurd (fault_dark s at x w)

  -- What is answered stands there.
  pub statement-stands : (at : ℕ) (t : Statement) → statement_at s at ≡ Ok (Some t) → StatementFrom s at t (suc t.end)
  statement-stands at t e = let h : NextSays s at (Ok (Some t)) = rw e at (statement_says s at) in h

  -- Where it lies.
  pub statement-lies : (at : ℕ) (t : Statement) → statement_at s at ≡ Ok (Some t)
      → (at < t.end) × (t.end < length s) × (t.first ≤ t.equals) × (t.equals < t.end)
  statement-lies at t e =
      let h = statement-stands at t e in
      let i = statement_inside s h in
      (i.0, i.1, h.is.key_first, h.is.value_after)

  -- What is malformed is no end.
  pub malformed-lies : (at : ℕ) → statement_at s at ≡ Err malformed → at < length s
  malformed-lies at e =
      let f : NextSays s at (Err malformed) = rw e at (statement_says s at) in
      by_order (length s) at (λ out. absurd (fault_dark s at f (λ k l u. absurd (omega arith)))) (λ l. l)

  -- Its key, as a part of a slice.
  pub part-key : (t : Statement) → t.first ≤ t.equals
      → key_of (take (t.equals - t.first) (drop t.first s)) ≡ key s t
  unfolding key
  part-key t h = ap key_of (part_is s t.first t.equals h)

  -- ---- All of them

  followed_same : (at : ℕ) (n : Next) (go on : ℕ → List Statement) → NextSays s at n
      → ((k : ℕ) → at < k → k ≤ length s → go k ≡ on k) → followed n go ≡ followed n on
  followed_same at (Ok (Some t)) go on h e =
      let l = statement_inside s h in
      ap (λ (ts : List Statement). t ∷ ts) (e (suc t.end) (omega (arith, l)) l.1)
  followed_same at (Ok None) go on h e = refl
  followed_same at (Err m) go on h e = refl

  enough : (m n at : ℕ) → at ≤ length s → length s < at + m → length s < at + n
      → leading_within m s at ≡ leading_within n s at
  unfolding leading_within
  enough zero n at i h l = absurd (omega arith)
  enough (suc m) zero at i h l = absurd (omega arith)
  enough (suc m) (suc n) at i h l =
      followed_same at (statement_at s at) _ _ (statement_says s at) (λ k a b. enough m n k b (omega arith) (omega arith))

  pub leading_step : (at : ℕ) → leading_statements s at ≡ followed (statement_at s at) (λ next. leading_statements s next)
  unfolding leading_statements leading_within
  leading_step at =
      followed_same at (statement_at s at) _ _ (statement_says s at)
      (λ k a b. enough (length s) (suc (length s)) k b (omega arith) (omega arith))

  -- In each of its cases.
  pub leading-one : {at next : ℕ} {t : Statement} → StatementFrom s at t next → leading_statements s at ≡ t ∷ leading_statements s next
  leading-one {at} {next} {t} h = rw (leading_step at, statement_answer h) (ap (λ (k : ℕ). t ∷ leading_statements s k) (sym h.ends))

  pub leading_end : (at : ℕ) → statement_at s at ≡ Ok None → leading_statements s at ≡ []
  leading_end at e = rw (leading_step at, e)

  pub leading-malformed : (at : ℕ) → statement_at s at ≡ Err malformed → leading_statements s at ≡ []
  leading-malformed at e = rw (leading_step at, e)

  -- Statements that stand end to end lead.
  pub leading-chain : (at : ℕ) (ts : List Statement) → EndToEnd s at ts → leading_statements s at ≡ ts
  leading-chain at [] w = leading_end at (end-answer w)
  leading-chain at (t ∷ ts) c = leading-one c.1 ∙ ap (λ (us : List Statement). t ∷ us) (leading-chain c.0 ts c.2)

  out : {P : List Statement → Type 0} {ts : List Statement} → Finds P (Some ts) → P ts
  out (found p) = p

  -- All statements of a well-formed body lead.
  pub leading_is : (at : ℕ) (ts : List Statement) → statements_from s at ≡ Some ts → leading_statements s at ≡ ts
  leading_is at ts e = leading-chain at ts (out (rw e at (finds-statements s at)))
