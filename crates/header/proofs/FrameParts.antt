-- The three searches of `header_at`, in its window, find the parts of the file's header: the start pattern, the first byte
-- that ends the body, the end pattern.
use Rattle.std.specs.Prelude.{Some}
use mathlib.Core.Path.{◌≡◌, ◌∙◌}
use mathlib.Core.List.{List}
use mathlib.Core.Logic.{inl, inr, ⊎_elim}
use Prim.Native.Nat.{ℕ, suc, ◌+◌, ◌≤◌, ◌<◌}
use native.Mathlib.Omega.{arith}
use borrow.Author.Tests.{eqb-true}
use lib.Dec.{eqb}
use lib.ListN.{take, length-take}
use lib.Seq.{get_or-take}
use Rattle.scan.specs.Byte.{byte}
use Rattle.scan.specs.First.{First}
use Rattle.scan.specs.Search.{first_from}
use Rattle.scan.proofs.Cases.{by_test, by_order}
use Rattle.scan.proofs.Decides.{Decides, decided, refuted, passes, rejects, decides_or, eqb_decides, ltb_decides}
use Rattle.scan.proofs.Finds.{Finds, IfSome, finds_by, finds_exactly, search_finds}
use Rattle.header.specs.Cases.{EndsBody, BodyEnd, Closes}
use Rattle.header.specs.Frame.{opening_at, closing_at, ends_body}
use Rattle.header.specs.Grammar.{StartPattern, EndPattern, BodyByte}
use Rattle.header.proofs.Window.{start_out, start_into, end_out, end_into}

-- ---- The patterns

-- The `{` of a start pattern is at most two bytes away.
pub start_near : {s : List ℕ} {at i : ℕ} → StartPattern s at i → (at ≤ i) × (i ≤ at + 2)
start_near (StartPattern.bare p) = (omega arith, omega arith)
start_near (StartPattern.lf p q) = (omega arith, omega arith)
start_near (StartPattern.crlf p q r) = (omega arith, omega arith)

module _ (s : List ℕ) where
  opening_sound : (at : ℕ) → IfSome (StartPattern s at) ((opening_at s at))
  unfolding opening_at
  opening_sound at =
      by_test (eqb (byte s at) 123) (λ e. rw e (StartPattern.bare (eqb-true _ _ e)))
      (λ n. rw n (by_test (eqb (byte s at) 10)
      (λ e. rw e (by_test (eqb (byte s (at + 1)) 123) (λ f. rw f (StartPattern.lf (eqb-true _ _ e) (eqb-true _ _ f)))
      (λ m. rw m tt)))
      (λ m. rw m (by_test (eqb (byte s at) 13)
      (λ e. rw e (by_test (eqb (byte s (at + 1)) 10)
      (λ f. rw f (by_test (eqb (byte s (at + 2)) 123)
      (λ g. rw g (StartPattern.crlf (eqb-true _ _ e) (eqb-true _ _ f) (eqb-true _ _ g))) (λ x. rw x tt)))
      (λ x. rw x tt)))
      (λ x. rw x tt)))))

  opening_complete : {at : ℕ} (i : ℕ) → StartPattern s at i → (opening_at s at) ≡ Some i
  unfolding opening_at
  opening_complete _ (StartPattern.bare p) = rw p
  opening_complete _ (StartPattern.lf p q) = rw (p, q)
  opening_complete _ (StartPattern.crlf p q r) = rw (p, q, r)

  closing_sound : (c : ℕ) → byte s c ≡ 125 → IfSome (EndPattern s c) ((closing_at s c))
  unfolding closing_at
  closing_sound c b =
      by_test (eqb (byte s (c + 1)) 10) (λ e. rw e (EndPattern.lf b (eqb-true _ _ e)))
      (λ n. rw n (by_test (eqb (byte s (c + 1)) 13)
      (λ e. rw e (by_test (eqb (byte s (c + 2)) 10) (λ f. rw f (EndPattern.crlf b (eqb-true _ _ e) (eqb-true _ _ f)))
      (λ x. rw x tt)))
      (λ x. rw x tt)))

  closing_complete : {c : ℕ} (i : ℕ) → EndPattern s c i → (closing_at s c) ≡ Some i
  unfolding closing_at
  closing_complete _ (EndPattern.lf p q) = rw q
  closing_complete _ (EndPattern.crlf p q r) = rw (q, r)

-- ---- The bytes of a body

ends_decides : (b : ℕ) → Decides (EndsBody b) (ends_body b)
unfolding ends_body
ends_decides b =
    decides_or (eqb_decides b 0) (decides_or (ltb_decides 127 b) (decides_or (eqb_decides b 123) (eqb_decides b 125)))

pub body_byte : (b : ℕ) → (EndsBody b → ⊥) → BodyByte b
body_byte b n = record {
  above = by_order 1 b (λ l. l) (λ l. absurd (n (inl (omega arith))));
  below = by_order b 127 (λ l. l) (λ l. absurd (n (inr (inl l))));
  not_left = λ e. n (inr (inr (inl e)));
  not_right = λ e. n (inr (inr (inr e)));
}

pub no_end_here : {b : ℕ} → BodyByte b → EndsBody b → ⊥
no_end_here p =
    ⊎_elim (λ e. omega (arith, p.above))
    (⊎_elim (λ l. omega (arith, p.below)) (⊎_elim p.not_left p.not_right))

-- ---- The searches

module _ (s : List ℕ) (at : ℕ) where
  abbrev pub window : List ℕ
  window = take (at + 65536) s

  pub window_byte : (k : ℕ) → k < at + 65536 → byte window k ≡ byte s k
  window_byte k l = get_or-take (at + 65536) s k 0 l

  pub finds_opening : Finds (StartPattern s at) ((opening_at window at))
  finds_opening =
      finds_by (λ i p. start_out (at + 65536) s p) (λ i p. start_into (at + 65536) s (omega (arith, start_near p)) p)
      (finds_exactly _ (opening_sound window at) (opening_complete window))

  pub finds_end : (left : ℕ) → Finds (BodyEnd s at left) ((first_from ends_body window (suc left)))
  finds_end left = finds_by (λ c. to_end c) (λ c. to_first c) (search_finds ends_body window (suc left))
    where
      to_end : (c : ℕ) → First ends_body window (suc left) c → BodyEnd s at left c
      to_end c f =
          let w : c < at + 65536 = omega (arith, f.inside, length-take (at + 65536) s) in
          record {
            after = f.from;
            inside = omega (arith, f.inside, length-take (at + 65536) s);
            within = w;
            ends = decided (ends_decides (byte s c)) (rw (window_byte c w) at f.here);
            first = λ k a b. refuted (ends_decides (byte s k)) (rw (window_byte k (omega arith)) at (f.before k a b));
          }

      to_first : (c : ℕ) → BodyEnd s at left c → First ends_body window (suc left) c
      to_first c e = record {
        from = e.after;
        inside = omega (arith, e.inside, e.within, length-take (at + 65536) s);
        here = rw (window_byte c e.within) (passes (ends_decides (byte s c)) e.ends);
        before = λ k a b.
            rw (window_byte k (omega (arith, e.within))) (rejects (ends_decides (byte s k)) (e.first k a b));
      }

  pub finds_closing : (c : ℕ) → c < at + 65536 → byte s c ≡ 125 → Finds (Closes s at c) ((closing_at window c))
  finds_closing c l b =
      finds_by (λ i p. let o = end_out (at + 65536) s p in record { pattern = o.0; within = o.1 })
      (λ i p. end_into (at + 65536) s p.within p.pattern)
      (finds_exactly _ (closing_sound window c (window_byte c l ∙ b)) (closing_complete window))
