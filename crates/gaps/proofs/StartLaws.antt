-- Where the first block starts, and the next, by the tests that the code makes.
use mathlib.Core.Path.{◌≡◌, sym, ◌∙◌}
use mathlib.Core.Bool.{true, false}
use mathlib.Core.Logic.{◌≢◌}
use mathlib.Core.List.{List}
use Prim.Native.Nat.{ℕ}
use borrow.Author.Tests.{eq-eqb, ne_eqb}
use Rattle.scan.proofs.Cases.{by_test}
use Rattle.text.specs.Whitespace.{visible_from}
use Rattle.blocks.specs.Judging.{proves_kind2}
use Rattle.blocks.specs.Opening.{first_start, next_start, start_after}

module _ (s : List ℕ) where
  module _ {at : ℕ} (e : at ≡ visible_from s 0) where
    -- Without whitespace in front the kind does not matter.
    pub first_at_0 : at ≡ 0 → 0 ≡ first_start s
    unfolding first_start
    first_at_0 z =
        let v : visible_from s 0 ≡ 0 = sym e ∙ z in
        by_test (proves_kind2 s 0) (λ k. rw (v, k)) (λ k. rw (v, k))

    pub first_kind_2 : proves_kind2 s at ≡ true → 0 ≡ first_start s
    unfolding first_start
    first_kind_2 k = rw (sym e, k)

    pub first_plain : proves_kind2 s at ≡ false → at ≡ first_start s
    unfolding first_start
    first_plain k = rw (sym e, k)

  module _ (kind end : ℕ) where
    pub next_plain : kind ≡ 1 → {at : ℕ} → at ≡ visible_from s end → at ≡ next_start s kind end
    unfolding next_start
    next_plain k q = rw (eq-eqb kind 1 k) q

    pub next_other : kind ≢ 1 → end ≡ next_start s kind end
    unfolding next_start
    next_other k = rw (ne_eqb kind 1 k)

    module _ (count : ℕ) {at : ℕ} where
      pub after_none : count ≡ 0 → at ≡ first_start s → at ≡ start_after s count kind end
      unfolding start_after
      after_none c q = rw (eq-eqb count 0 c) q

      pub after_some : count ≢ 0 → at ≡ next_start s kind end → at ≡ start_after s count kind end
      unfolding start_after
      after_some c q = rw (ne_eqb count 0 c) q
