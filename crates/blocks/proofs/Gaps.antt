-- Whitespace between blocks: where the next block is looked for, and the brace of a header behind whitespace.
use Rattle.std.specs.Prelude.{Option, ℕ, Some, None}
use mathlib.Core.Path.{◌≡◌, refl, sym, ◌∙◌}
use mathlib.Core.Bool.{true, false}
use mathlib.Core.List.{List}
use mathlib.Core.Logic.{⊎_elim}
use Prim.Native.Nat.{ℕ, ◌+◌, ◌≤◌, ◌<◌}
use native.Mathlib.Nat.{eq-or-lt_of_le}
use native.Mathlib.Omega.{arith}
use borrow.Author.Tests.{not-true, not-false}
use lib.ListN.{length, get_or-eq_default}
use Rattle.scan.specs.Byte.{byte}
use Rattle.scan.specs.Search.{first_from}
use Rattle.scan.proofs.Cases.{by_order, clash}
use Rattle.scan.proofs.Searches.{FoundSays, search_says}
use Rattle.text.specs.Whitespace.{whitespace, visible, found_or, visible_from}
use Rattle.header.specs.Grammar.{StartPattern}
use Rattle.header.proofs.FrameParts.{start_near}
use Rattle.blocks.specs.Cases.{NextAt}
use Rattle.blocks.specs.Grammar.{Gap}
use Rattle.blocks.specs.Opening.{next_start}
use Rattle.blocks.specs.Places.{Kind, kind_1, kind_2}
use Rattle.blocks.proofs.Coded.{kind_number, kinds_differ, by_kind}

-- ---- Whitespace

seen : (b : ℕ) → visible b ≡ true → whitespace b ≡ false
unfolding visible
seen b e = not-true (whitespace b) e

unseen : (b : ℕ) → visible b ≡ false → whitespace b ≡ true
unfolding visible
unseen b e = not-false (whitespace b) e

-- A gap of no bytes.
pub no_gap : {s : List ℕ} {kind : Kind} (at : ℕ) → Gap s kind at at
no_gap at = record { order = omega arith; only_whitespace = λ k l u. absurd (omega arith); end_to_end = λ q. refl }

module _ (s : List ℕ) where
  -- Past the end stands none.
  pub end_visible : (k : ℕ) → length s ≤ k → whitespace (byte s k) ≡ false
  unfolding whitespace
  end_visible k h = rw (get_or-eq_default s 0 h)

  -- ---- Where the next block is looked for

  -- There is one such offset,
  pub next_unique : {kind : Kind} {end i j : ℕ} → NextAt s kind end i → NextAt s kind end j → i ≡ j
  next_unique {kind} {end} {i} {j} a b = by_kind kind one (λ k. sym (a.gap.end_to_end k) ∙ b.gap.end_to_end k)
    where
      before : {i j : ℕ} → kind ≡ kind_1 → NextAt s kind end i → NextAt s kind end j → i < j → ⊥
      before {i} k a b l = clash (whitespace (byte s i)) (b.gap.only_whitespace i a.gap.order l) (a.visible k)

      one : kind ≡ kind_1 → i ≡ j
      one k = by_order i j (λ le. by_order j i (λ ge. omega arith) (λ lt. absurd (before k a b lt))) (λ lt. absurd (before k b a lt))

  found-next : {end : ℕ} → end ≤ length s → (f : Option ℕ) → FoundSays visible s end f → NextAt s kind_1 end (found_or (length s) f)
  found-next h (Some i) x = record {
    gap = record { order = x.from; only_whitespace = λ k l u. unseen (byte s k) (x.before k l u); end_to_end = λ q. absurd (kinds_differ q) };
    visible = λ q. seen (byte s i) x.here;
  }
  found-next h None w = record {
    gap = record { order = h; only_whitespace = λ k l u. unseen (byte s k) (w k l u); end_to_end = λ q. absurd (kinds_differ q) };
    visible = λ q. end_visible (length s) (omega arith);
  }

  pub visible-next : (end : ℕ) → end ≤ length s → NextAt s kind_1 end (visible_from s end)
  unfolding visible_from
  visible-next end h = found-next h (first_from visible s end) (search_says visible s end)

  -- and it is that of the function.
  pub start-next : (kind : Kind) (end : ℕ) → end ≤ length s → NextAt s kind end (next_start s (kind_number kind) end)
  unfolding next_start
  start-next kind_1 end h = visible-next end h
  start-next kind_2 end h = record { gap = no_gap end; visible = λ q. absurd (kinds_differ (sym q)) }

  pub next_start_lem : {kind : Kind} {end at : ℕ} → end ≤ length s → NextAt s kind end at → next_start s (kind_number kind) end ≡ at
  next_start_lem {kind} {end} h x = next_unique (start-next kind end h) x

  pub next-inside : {kind : Kind} {end at : ℕ} → end ≤ length s → NextAt s kind end at → at ≤ length s
  next-inside {at = at} h x =
      by_order at (length s) (λ le. le)
      (λ lt. absurd (clash (whitespace (byte s (length s))) (x.gap.only_whitespace (length s) h lt) (end_visible (length s) (omega arith))))

  -- Where only a gap is left, the file ends.
  pub gap-next : {kind : Kind} {end : ℕ} → Gap s kind end (length s) → NextAt s kind end (length s)
  gap-next g = record { gap = g; visible = λ q. end_visible (length s) (omega arith) }

-- ---- Start patterns

module _ {s : List ℕ} where
  -- A start pattern ends with its brace, behind whitespace,
  pub start_brace : {at left : ℕ} → StartPattern s at left → byte s left ≡ 123
  start_brace (StartPattern.bare p) = p
  start_brace (StartPattern.lf p q) = q
  start_brace (StartPattern.crlf p q r) = r

  pub brace_visible : {at left : ℕ} → StartPattern s at left → whitespace (byte s left) ≡ false
  unfolding whitespace
  brace_visible p = rw (start_brace p)

  pub pattern_blank : {at left : ℕ} → StartPattern s at left → (k : ℕ) → at ≤ k → k < left → whitespace (byte s k) ≡ true
  unfolding whitespace
  pattern_blank (StartPattern.bare p) k l u = absurd (omega arith)
  pattern_blank {at} (StartPattern.lf p q) k l u = let e : at ≡ k = omega arith in rw (rw e at p)
  pattern_blank {at} (StartPattern.crlf p q r) k l u =
      ⊎_elim (λ e. rw (rw e at p)) (λ lt. let e : at + 1 ≡ k = omega arith in rw (rw e at q)) (eq-or-lt_of_le l)

  -- so where no whitespace stands it is the brace.
  pub start_bare : {at left : ℕ} → StartPattern s at left → whitespace (byte s at) ≡ false → left ≡ at
  start_bare {at} {left} p w =
      by_order left at (λ le. omega (arith, start_near p))
      (λ lt. absurd (clash (whitespace (byte s at)) (pattern_blank p at (omega arith) lt) w))
