-- One statement: `statement_at` answers a statement of the grammar, that only whitespace is left, or that something is wrong.
use Rattle.std.specs.Prelude.{Option, ℕ, Some, None, Ok, Err}
use mathlib.Core.Path.{◌≡◌, refl, ap}
use mathlib.Core.Bool.{false}
use mathlib.Core.List.{List}
use Prim.Native.Nat.{ℕ, suc, ◌≤◌, ◌<◌}
use native.Mathlib.Nat.{le_of_lt}
use native.Mathlib.Omega.{arith}
use borrow.Author.Tests.{eq-eqb, ne_eqb, eqb-true, eqb-false, lt-ltb, le-ltb, not-true, not-false}
use Rattle.scan.specs.Byte.{byte}
use Rattle.scan.specs.First.{First}
use Rattle.scan.specs.Search.{first_from, is}
use Rattle.scan.proofs.Cases.{by_order, byte_inside, clash}
use Rattle.scan.proofs.Searches.{FoundSays, search_says, first_unique}
use Rattle.text.specs.Whitespace.{whitespace, visible}
use Rattle.header.specs.Cases.{Fault, tail, no-equals, empty_key}
use Rattle.header.specs.Grammar.{IsStatement, StatementFrom, OnlyWhitespace}
use Rattle.header.specs.Statements.{next_by, statement_at, Next}
use Rattle.header.specs.declared.Statement.{Statement}
use Rattle.header.proofs.KeyLaws.{visible-key, whitespace-key}
use Rattle.header.proofs.Unambiguous.{equals_first, end_first}

-- What an answer of `statement_at` says.
abbrev pub NextSays : List ℕ → ℕ → Next → Type 0
NextSays s at (Ok (Some t)) = StatementFrom s at t (suc t.end)
NextSays s at (Ok None) = OnlyWhitespace s at
NextSays s at (Err m) = Fault s at

module _ (s : List ℕ) (at : ℕ) where
  not_only : {d : ℕ} → First visible s at d → OnlyWhitespace s at → ⊥
  unfolding visible
  not_only {d} D w = clash (whitespace (byte s d)) (w d D.from D.inside) (not-true _ D.here)

  only : FoundSays visible s at None → OnlyWhitespace s at
  unfolding visible
  only D k l u = not-false (whitespace (byte s k)) (D k l u)

  -- The `=` and the `;` of a statement from here are the first.
  equals_from : {t : Statement} {n : ℕ} → StatementFrom s at t n → First (is 61) s at t.equals
  equals_from h = rw h.starts at (equals_first s h.is)

  end_from : {t : Statement} {n : ℕ} → StatementFrom s at t n → First (is 59) s at t.end
  end_from h = rw h.starts at (end_first s h.is)

  module _ (d f e : ℕ) (D : First visible s at d) (F : First (is 59) s at f) (E : First (is 61) s at e) where
    abbrev candidate : Statement
    candidate = record { first = at; equals = e; end = f }

    good : d < e → e < f → IsStatement s candidate
    good de ef = record {
      key_first = E.from;
      key_plain = λ k l u. (eqb-false _ _ (E.before k l u), eqb-false _ _ (F.before k l (omega arith)));
      equals_is = eqb-true _ _ E.here;
      value_after = ef;
      value_plain = λ k l u. eqb-false _ _ (F.before k (omega (arith, E.from)) u);
      end_is = eqb-true _ _ F.here;
      key_some = visible-key s candidate (le_of_lt E.inside) d D.from de D.here;
    }

    -- What is wrong where the three are in another order.
    empty : e ≤ d → Fault s at
    unfolding visible
    empty ed = empty_key E.from (eqb-true _ _ E.here) (λ k l u. not-false (whitespace (byte s k)) (D.before k l (omega arith)))

    unequal : f ≤ e → Fault s at
    unequal fe =
        no-equals F.from (eqb-true _ _ F.here) (λ k l u. (eqb-false _ _ (E.before k l (omega arith)), eqb-false _ _ (F.before k l u)))

    three : NextSays s at (next_by at (Some d) (Some f) (Some e))
    three =
        by_order e d (λ ed. rw (le-ltb d e ed) (empty ed))
        (λ de. by_order f e (λ fe. rw (lt-ltb d e de, le-ltb e f fe) (unequal fe))
        (λ ef. rw (lt-ltb d e de, lt-ltb e f ef) (record { starts = refl; is = good de ef; ends = refl })))

  by_found : (d f e : Option ℕ) → FoundSays visible s at d → FoundSays (is 59) s at f → FoundSays (is 61) s at e
      → NextSays s at (next_by at d f e)
  by_found None f e D F E = only D
  by_found (Some d) None e D F E = tail (not_only D) (λ k l u. eqb-false _ _ (F k l u))
  by_found (Some d) (Some f) None D F E =
      no-equals F.from (eqb-true _ _ F.here)
      (λ k l u. (eqb-false _ _ (E k l (omega (arith, F.inside))), eqb-false _ _ (F.before k l u)))
  by_found (Some d) (Some f) (Some e) D F E = three d f e D F E

  pub statement_says : NextSays s at (statement_at s at)
  unfolding statement_at
  statement_says =
      by_found (first_from visible s at) (first_from (is 59) s at) (first_from (is 61) s at)
      (search_says visible s at) (search_says (is 59) s at) (search_says (is 61) s at)

  -- ---- Where something is wrong, there is neither

  -- A byte that is no whitespace, at or after `at`.
  dark_after : {k : ℕ} (b : ℕ) → at ≤ k → byte s k ≡ b → 1 ≤ b → whitespace b ≡ false → OnlyWhitespace s at → ⊥
  dark_after {k} b l e h f w = clash (whitespace (byte s k)) (w k l (byte_inside s k b e h)) (rw e f)

  pub fault_dark : Fault s at → OnlyWhitespace s at → ⊥
  unfolding whitespace
  fault_dark (tail n f) w = n w
  fault_dark (no-equals l e f) w = dark_after 59 l e (omega arith) refl w
  fault_dark (empty_key l e f) w = dark_after 61 l e (omega arith) refl w

  pub fault_none : Fault s at → {t : Statement} {n : ℕ} → StatementFrom s at t n → ⊥
  unfolding visible whitespace
  fault_none (tail n f) {t} h = let z = end_from h in f t.end z.from z.inside (eqb-true _ _ z.here)
  fault_none (no-equals {f = f} l e g) {t} h =
      let z = equals_from h in
      by_order f t.equals
      (λ le. (h.is.key_plain f (rw h.starts l) (below le)).1 e)
      (λ lt. (g t.equals z.from lt).0 (eqb-true _ _ z.here))
    where
      below : f ≤ t.equals → f < t.equals
      below le = by_order t.equals f (λ ge. let q : f ≡ t.equals = omega arith in absurd (omega (arith, rw q at e, h.is.equals_is))) (λ lt. lt)
  fault_none (empty_key {e = e} l q w) {t} h =
      let z = equals_from h in
      let first_equals : First (is 61) s at e = record {
        from = l;
        inside = byte_inside s e 61 q (omega arith);
        here = eq-eqb (byte s e) 61 q;
        before = λ k a b. ne_eqb (byte s k) 61 (λ p. clash (whitespace (byte s k)) (w k a b) (ap whitespace p));
      } in
      let same : t.equals ≡ e = first_unique (is 61) s z first_equals in
      omega (
        arith,
        h.is.key_some,
        whitespace-key s t (le_of_lt z.inside) (λ j a b. rw (w j (omega (arith, h.starts)) (omega arith))),
      )
