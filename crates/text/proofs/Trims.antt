-- Trimming: the steps of the loop from the end, and what stands in front.
use Rattle.std.specs.Prelude.{Option, Some, None, MatchOption}
use mathlib.Core.Path.{◌≡◌, refl, sym, ap, ◌∙◌}
use mathlib.Core.Bool.{true, false}
use mathlib.Core.List.{List, [], ◌∷◌}
use Prim.Native.Nat.{ℕ, zero, suc, ◌+◌, ◌-◌, ◌≤◌, ◌<◌, zero-le, suc-le-suc}
use native.Mathlib.Omega.{arith}
use borrow.Author.Tests.{not-true, not-false, ltb-true}
use lib.Dec.{eqb, ltb}
use lib.ListN.{length}
use Rattle.scan.specs.Byte.{byte}
use Rattle.scan.specs.First.{First, Without}
use Rattle.scan.specs.Search.{first_from}
use Rattle.scan.specs.declared.Span.{Span}
use Rattle.scan.proofs.Cases.{by_test, by_order, clash}
use Rattle.scan.proofs.Searches.{search_says}
use Rattle.text.specs.Value.{leading, trimmed_end, trimmed, without_opening_quote, without_closing_quote, value_span}
use Rattle.text.specs.Whitespace.{whitespace, visible}

-- ---- From the end

module _ (l : List ℕ) where
  -- Whitespace alone is all over,
  all_over : (n : ℕ) → ((k : ℕ) → k < n → whitespace (byte l k) ≡ true) → trimmed_end l n ≡ 0
  unfolding trimmed_end
  all_over zero w = refl
  all_over (suc n) w = rw (w n (omega arith)) (all_over n (λ k h. w k (omega arith)))

  -- and what stands behind the last byte that is none.
  end_behind : (n i : ℕ) → i < n → whitespace (byte l i) ≡ false → ((k : ℕ) → i < k → k < n → whitespace (byte l k) ≡ true)
      → trimmed_end l n ≡ i + 1
  unfolding trimmed_end
  end_behind zero i h v w = absurd (omega arith)
  end_behind (suc n) i h v w =
      by_order n i (λ le. let q : i ≡ n = omega arith in rw (rw q at v) (omega arith))
      (λ lt. rw (w n lt (omega arith)) (end_behind n i lt v (λ k a b. w k a (omega arith))))

  -- The end by the place of the last visible byte, as a search from the back gives it.
  abbrev pub LastVisible : Option ℕ → Type 0
  LastVisible r =
      MatchOption r ((k : ℕ) → k < length l → whitespace (byte l k) ≡ true)
      (λ i. (i < length l) × (whitespace (byte l i) ≡ false) × ((k : ℕ) → i < k → k < length l → whitespace (byte l k) ≡ true))

  pub end_by_last : (r : Option ℕ) (n : ℕ) → LastVisible r → MatchOption r (n ≡ 0) (λ i. n ≡ i + 1) → n ≡ trimmed_end l (length l)
  end_by_last None n h e = e ∙ sym (all_over (length l) h)
  end_by_last (Some i) n h e = e ∙ sym (end_behind (length l) i h.0 h.1 h.2)

  pub trimmed_end_inside : (n : ℕ) → trimmed_end l n ≤ n
  unfolding trimmed_end
  trimmed_end_inside zero = zero-le
  trimmed_end_inside (suc n) =
      by_test (whitespace (byte l n)) (λ e. rw e (omega (arith, trimmed_end_inside n))) (λ e. rw e (omega arith))

  -- A visible byte is not trimmed.
  pub end_after : (n d : ℕ) → d < n → visible (byte l d) ≡ true → d < trimmed_end l n
  unfolding trimmed_end visible
  end_after zero d h v = absurd (omega arith)
  end_after (suc n) d h v =
      by_test (whitespace (byte l n))
      (λ e. rw e (by_order n d
      (λ le. let q : d ≡ n = omega arith in
      absurd (clash (whitespace (byte l n)) e (rw q at (not-true (whitespace (byte l d)) v))))
      (λ lt. end_after n d lt v)))
      (λ e. rw e h)

-- ---- In front

leading_first : (l : List ℕ) (d : ℕ) → d < length l → visible (byte l d) ≡ true → Without visible l 0 d → leading l ≡ d
unfolding leading visible
leading_first [] d h v w = absurd (omega arith)
leading_first (b ∷ bs) zero h v w = rw (not-true (whitespace b) v)
leading_first (b ∷ bs) (suc d) h v w =
    rw (not-false (whitespace b) (w 0 (omega arith) (omega arith)))
    (ap suc (leading_first bs d (omega arith) v (λ k low high. w (suc k) (omega arith) (omega arith))))

leading_whole : (l : List ℕ) → Without visible l 0 (length l) → leading l ≡ length l
unfolding leading visible
leading_whole [] w = refl
leading_whole (b ∷ bs) w =
    rw (not-false (whitespace b) (w 0 (omega arith) (omega arith)))
    (ap suc (leading_whole bs (λ k low high. w (suc k) (omega arith) (omega arith))))

-- ---- Both ends, by the first visible byte

module _ (l : List ℕ) where
  pub trimmed_empty : first_from visible l 0 ≡ None → trimmed l ≡ record { offset = length l; length = 0 }
  unfolding trimmed
  trimmed_empty e =
      let p : leading l ≡ length l = leading_whole l (rw e at (search_says visible l 0)) in
      let n : trimmed_end l (length l) - leading l ≡ 0 = omega (arith, trimmed_end_inside l (length l)) in
      λ i. record { offset = p i; length = n i }

  pub trimmed_some : (d : ℕ) → first_from visible l 0 ≡ Some d
      → trimmed l ≡ record { offset = d; length = trimmed_end l (length l) - d }
  unfolding trimmed
  trimmed_some d e =
      let f : First visible l 0 d = rw e at (search_says visible l 0) in
      let p : leading l ≡ d = leading_first l d f.inside f.here f.before in
      λ i. record { offset = p i; length = trimmed_end l (length l) - p i }

  pub first_before_end : (d : ℕ) → first_from visible l 0 ≡ Some d → d < trimmed_end l (length l)
  first_before_end d e =
      let f : First visible l 0 d = rw e at (search_says visible l 0) in
      end_after l (length l) d f.inside f.here

-- ---- What is left lies inside

pub leading_inside : (l : List ℕ) → leading l ≤ length l
unfolding leading
leading_inside [] = zero-le
leading_inside (b ∷ bs) = by_test (whitespace b) (λ e. rw e (suc-le-suc (leading_inside bs))) (λ e. rw e zero-le)

module _ (l : List ℕ) where
  -- A span lies in the list.
  abbrev pub Fits : Span → Type 0
  Fits p = p.offset + p.length ≤ length l

  pub trimmed_fits : Fits (trimmed l)
  unfolding trimmed
  trimmed_fits = omega (arith, leading_inside l, trimmed_end_inside l (length l))

  pub opening_quote_fits : (p : Span) → Fits p → Fits (without_opening_quote l p)
  unfolding without_opening_quote
  opening_quote_fits p h =
      by_test (ltb 0 p.length)
      (λ e. rw e (by_test (eqb (byte l p.offset) 34) (λ f. rw f (omega (arith, ltb-true 0 p.length e)))
      (λ f. rw f h)))
      (λ e. rw e h)

  -- The three steps to a value, one after another.
  module _ {p : Span} (first : p ≡ trimmed l) where
    pub first_fits : Fits p
    first_fits = rw first trimmed_fits

    module _ {q : Span} (second : q ≡ without_opening_quote l p) where
      pub second_fits : Fits q
      second_fits = rw second (opening_quote_fits p first_fits)

      pub third_step : {r : Span} → r ≡ without_closing_quote l q → r ≡ value_span l
      unfolding value_span
      third_step third = cc
