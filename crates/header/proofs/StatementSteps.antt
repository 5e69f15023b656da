-- `statement_at` step by step, as the code takes it: the first visible byte, the first `=` or `;` from there, and the `;`
-- after the `=`.
use Rattle.std.specs.Prelude.{Option, ℕ, Some, None, Ok, Err}
use mathlib.Core.Path.{◌≡◌, refl, ap}
use mathlib.Core.Bool.{true, false, true≢false}
use mathlib.Core.List.{List}
use Prim.Native.Nat.{ℕ, ◌+◌, ◌≤◌, ◌<◌}
use native.Mathlib.Omega.{arith}
use borrow.Author.Tests.{eq-eqb, ne_eqb, eqb-true, lt-ltb, le-ltb}
use lib.Dec.{eqb}
use lib.ListN.{length}
use Rattle.scan.specs.Byte.{byte}
use Rattle.scan.specs.First.{First, Without}
use Rattle.scan.specs.Search.{first_from, is}
use Rattle.scan.proofs.Cases.{by_test, by_order, clash}
use Rattle.scan.proofs.Searches.{FoundSays, search_says, search_is}
use Rattle.text.specs.Whitespace.{whitespace, visible}
use Rattle.header.specs.Checks.{separator}
use Rattle.header.specs.Statements.{next_by, statement_at, malformed}

-- ---- The bytes

equals_separates : (b : ℕ) → eqb b 61 ≡ true → separator b ≡ true
unfolding separator
equals_separates b e = rw e

semicolon_separates : (b : ℕ) → eqb b 59 ≡ true → separator b ≡ true
unfolding separator
semicolon_separates b e = by_test (eqb b 61) (λ f. rw f) (λ f. rw (f, e))

-- A separator other than `=` is `;`.
other_separator : (b : ℕ) → separator b ≡ true → (b ≡ 61 → ⊥) → eqb b 59 ≡ true
unfolding separator
other_separator b e n = rw (ne_eqb b 61 n) at e

-- A byte that is no separator is neither.
plain_byte : (b : ℕ) → separator b ≡ false → (eqb b 61 ≡ false) × (eqb b 59 ≡ false)
plain_byte b e = (
  by_test (eqb b 61) (λ f. absurd (clash (separator b) (equals_separates b f) e)) (λ f. f),
  by_test (eqb b 59) (λ f. absurd (clash (separator b) (semicolon_separates b f) e)) (λ f. f),
)

-- Nor is a byte of whitespace.
whitespace-byte : (b : ℕ) → visible b ≡ false → separator b ≡ false
unfolding visible whitespace separator
whitespace-byte b e =
    by_test (eqb b 61) (λ f. absurd (true≢false (rw (eqb-true b 61 f) at e)))
    (λ f. by_test (eqb b 59) (λ g. absurd (true≢false (rw (eqb-true b 59 g) at e))) (λ g. rw (f, g)))

-- ---- The steps

module _ (s : List ℕ) (at : ℕ) where
  pub nothing_more : first_from visible s at ≡ None → statement_at s at ≡ Ok None
  unfolding statement_at
  nothing_more e = rw e

  module _ {d : ℕ} (seen : first_from visible s at ≡ Some d) where
    start : First visible s at d
    start = rw seen at (search_says visible s at)

    -- It is malformed where no `=` and `;` stand in order after the first visible byte.
    broken : ((e f : ℕ) → First (is 61) s at e → First (is 59) s at f → d < e → e < f → ⊥) → statement_at s at ≡ Err malformed
    unfolding statement_at
    broken n =
        rw seen (go (first_from (is 59) s at) (first_from (is 61) s at) (search_says (is 59) s at) (search_says (is 61) s at))
      where
        go : (f e : Option ℕ) → FoundSays (is 59) s at f → FoundSays (is 61) s at e → next_by at (Some d) f e ≡ Err malformed
        go None e F E = refl
        go (Some f) None F E = refl
        go (Some f) (Some e) F E =
            by_order e d (λ ed. rw (le-ltb d e ed))
            (λ de. by_order f e (λ fe. rw (lt-ltb d e de, le-ltb e f fe)) (λ ef. absurd (n e f E F de ef)))

    pub no-separator : first_from separator s d ≡ None → statement_at s at ≡ Err malformed
    no-separator e =
        let w : Without separator s d (length s) = rw e at (search_says separator s d) in
        broken (λ e f E F de ef. clash (separator (byte s e)) (equals_separates (byte s e) E.here)
        (w e (omega arith) E.inside))

    module _ {m : ℕ} (mark : first_from separator s d ≡ Some m) where
      separated : First separator s d m
      separated = rw mark at (search_says separator s d)

      -- Before the mark stand neither `=` nor `;`.
      plain_before : (k : ℕ) → at ≤ k → k < m → separator (byte s k) ≡ false
      plain_before k l u =
          by_order d k (λ dk. separated.before k dk u) (λ kd. whitespace-byte (byte s k) (start.before k l kd))

      pub mark_inside : (d ≤ m) × (m < length s)
      mark_inside = (separated.from, separated.inside)

      pub semicolon_first : (byte s m ≡ 61 → ⊥) → statement_at s at ≡ Err malformed
      semicolon_first n =
          let semicolon : eqb (byte s m) 59 ≡ true = other_separator (byte s m) separated.here n in
          broken (λ e f E F de ef. by_order f m
          (λ fm. by_order e m (λ em. clash (separator (byte s e)) (equals_separates (byte s e) E.here)
          (plain_before e E.from (omega arith))) (λ me. omega arith))
          (λ mf. clash (eqb (byte s m) 59) semicolon
          (F.before m (omega (arith, start.from, separated.from)) mf)))

      module _ (equals : byte s m ≡ 61) where
        -- The mark is the first `=`.
        first_equals : First (is 61) s at m
        first_equals = record {
          from = omega (arith, start.from, separated.from);
          inside = separated.inside;
          here = eq-eqb (byte s m) 61 equals;
          before = λ k l u. (plain_byte (byte s k) (plain_before k l u)).0;
        }

        pub empty_key : m ≡ d → statement_at s at ≡ Err malformed
        empty_key q =
            broken (λ e f E F de ef. clash (eqb (byte s m) 61) first_equals.here
            (E.before m first_equals.from (omega arith)))

        -- No `;` stands up to the mark.
        after_mark : (f : ℕ) → at ≤ f → is 59 (byte s f) ≡ true → m + 1 ≤ f
        after_mark f l e =
            by_order (m + 1) f (λ le. le)
            (λ lt. by_order m f
            (λ mf. let q : f ≡ m = omega arith in
            absurd (omega (arith, eqb-true (byte s f) 59 e, equals, ap (byte s) q)))
            (λ fm. absurd (clash (eqb (byte s f) 59) e (plain_byte (byte s f) (plain_before f l fm)).1)))

        pub unended : first_from (is 59) s (m + 1) ≡ None → statement_at s at ≡ Err malformed
        unended e =
            let w : Without (is 59) s (m + 1) (length s) = rw e at (search_says (is 59) s (m + 1)) in
            broken (λ e f E F de ef. clash (eqb (byte s f) 59) F.here
            (w f (after_mark f F.from F.here) F.inside))

        pub whole_statement : {f : ℕ} → (m ≡ d → ⊥) → first_from (is 59) s (m + 1) ≡ Some f
            → statement_at s at ≡ Ok (Some (record { first = at; equals = m; end = f }))
        unfolding statement_at
        whole_statement {f} n e =
            let F : First (is 59) s (m + 1) f = rw e at (search_says (is 59) s (m + 1)) in
            let G : First (is 59) s at f = record {
              from = omega (arith, F.from, first_equals.from);
              inside = F.inside;
              here = F.here;
              before = λ k l u. by_test (eqb (byte s k) 59)
                  (λ h. absurd (clash (eqb (byte s k) 59) h (F.before k (after_mark k l h) u))) (λ h. h);
            } in
            rw (
              seen,
              search_is (is 59) s G,
              search_is (is 61) s first_equals,
              lt-ltb d m (omega (arith, separated.from)),
              lt-ltb m f (omega (arith, F.from)),
            )
