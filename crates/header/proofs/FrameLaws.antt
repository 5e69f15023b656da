-- `header_at` answers the header of the grammar exactly if one stands there, and else the error of its case.
use Rattle.std.specs.Prelude.{Some, Ok, Err}
use Rattle.scan.specs.Outcome.{Outcome, refused}
use mathlib.Core.Path.{◌≡◌}
use mathlib.Core.List.{List}
use mathlib.Core.Logic.{inr}
use Prim.Native.Nat.{ℕ, suc, ◌+◌, ◌-◌, ◌≤◌, ◌<◌}
use native.Mathlib.Nat.{add-sub_cancel_left}
use native.Mathlib.Omega.{arith}
use borrow.Author.Tests.{eqb-true, eqb-false, ne_eqb}
use lib.Dec.{eqb}
use lib.ListN.{length}
use Rattle.scan.specs.Byte.{byte}
use Rattle.scan.specs.Search.{first_from}
use Rattle.scan.proofs.Cases.{by_test, byte_inside}
use Rattle.scan.proofs.Finds.{by_finds, finds_some, finds_none}
use Rattle.header.specs.Cases.{NoStart, BodyEnd, Closes, BadByte, NoEnd, FrameError}
use Rattle.header.specs.Frame.{opening_at, closing_at, ends_body, frame_at, header_at}
use Rattle.header.specs.Grammar.{StartPattern, EndPattern, IsHeader}
use Rattle.header.specs.declared.Header.{Header}
use Rattle.header.proofs.FrameParts.{start_near, body_byte, no_end_here, window, window_byte}
use Rattle.header.proofs.FrameParts.{finds_opening, finds_end, finds_closing}
use Rattle.header.proofs.Unambiguous.{start_unique, end_unique, end_brace}

-- ---- Where a header lies

end_inside : {s : List ℕ} {c i : ℕ} → EndPattern s c i → (c < i) × (i ≤ length s)
end_inside {s} (EndPattern.lf p q) = (omega arith, omega (arith, byte_inside s _ 10 q (omega arith)))
end_inside {s} (EndPattern.crlf p q r) = (omega arith, omega (arith, byte_inside s _ 10 r (omega arith)))

-- A header lies inside the file.
pub header_inside : {s : List ℕ} {at : ℕ} {h : Header} → IsHeader s at h
    → (at < h.right) × (h.right < at + h.length) × (at + h.length ≤ length s)
header_inside i =
    let e = end_inside i.closing in
    (omega (arith, start_near i.opening, i.order), e.0, e.1)

-- Its `{` is at or after its start, its `}` after that.
pub header_order : {s : List ℕ} {at : ℕ} {h : Header} → IsHeader s at h → (at ≤ h.left) × (h.left < h.right)
header_order i = ((start_near i.opening).0, i.order)

-- ---- What an answer says

abbrev pub HeaderSays : List ℕ → ℕ → Outcome Header → Type 0
HeaderSays s at (Ok h) = IsHeader s at h
HeaderSays s at (Err e) = FrameError s at e

module _ (s : List ℕ) (at : ℕ) where
  -- The three parts make a header.
  made : {left c next : ℕ} → StartPattern s at left → BodyEnd s at left c → Closes s at c next
      → IsHeader s at (record { left = left; right = c; length = next - at })
  made {next = next} p q r =
      let e : at + (next - at) ≡ next = omega (arith, start_near p, q.after, end_inside r.pattern) in
      record {
        opening = p;
        order = q.after;
        body = λ k a b. body_byte (byte s k) (q.first k a b);
        closing = rw e r.pattern;
        short = omega (arith, r.within);
      }

  pub header_says : HeaderSays s at (header_at s at)
  unfolding header_at frame_at
  header_says =
      by_finds (finds_opening s at)
      (λ left e p. rw e (by_finds (finds_end s at left)
      (λ c f q. rw (f, window_byte s at c q.within) (by_test (eqb (byte s c) 125)
      (λ t. rw t (by_finds (finds_closing s at c q.within (eqb-true _ _ t))
      (λ next g r. rw g (made p q r))
      (λ g n. rw g (FrameError.no_end (NoEnd.unclosed p q (eqb-true _ _ t) n)))))
      (λ t. rw t (FrameError.bad-byte (record { left = left; opening = p; end = q; not_right = eqb-false _ _ t })))))
      (λ f n. rw f (FrameError.no_end (NoEnd.unended p n)))))
      (λ e n. rw e (FrameError.no_start n))

-- ---- Each case has its answer

module _ {s : List ℕ} {at : ℕ} where
  opening_is : {left : ℕ} → StartPattern s at left → (opening_at (window s at) at) ≡ Some left
  opening_is p = finds_some (finds_opening s at) (λ i. start_unique) p

  end_is : {left c : ℕ} → BodyEnd s at left c → (first_from ends_body (window s at) (suc left)) ≡ Some c
  end_is {left} {c} q = finds_some (finds_end s at left) one q
    where
      one : (d : ℕ) → BodyEnd s at left d → BodyEnd s at left c → d ≡ c
      one d a b =
          let not_before : ¬ (d < c) = λ lt. b.first d a.after lt a.ends in
          let not_after : ¬ (c < d) = λ lt. a.first c b.after lt b.ends in
          omega arith

  byte-is : {left c : ℕ} → BodyEnd s at left c → byte (window s at) c ≡ byte s c
  byte-is {c = c} q = window_byte s at c q.within

  pub no-start-answer : NoStart s at → header_at s at ≡ refused 3 at
  unfolding header_at frame_at
  no-start-answer n = rw (finds_none (finds_opening s at) n)

  pub bad-byte-answer : {c : ℕ} → BadByte s at c → header_at s at ≡ refused 4 c
  unfolding header_at frame_at
  bad-byte-answer b = rw (opening_is b.opening, end_is b.end, byte-is b.end, ne_eqb _ _ b.not_right)

  pub no-end-answer : NoEnd s at → header_at s at ≡ refused 5 at
  unfolding header_at frame_at
  no-end-answer (NoEnd.unended {left = left} p n) = rw (opening_is p, finds_none (finds_end s at left) n)
  no-end-answer (NoEnd.unclosed {c = c} p q b n) =
      rw (opening_is p, end_is q, byte-is q, b, finds_none (finds_closing s at c q.within b) n)

  -- Of a header, the `}` is the first byte that ends the body.
  header-end : {h : Header} → IsHeader s at h → BodyEnd s at h.left h.right
  header-end i =
      let n = header_inside i in
      record {
        after = i.order;
        inside = omega (arith, n);
        within = omega (arith, n, i.short);
        ends = inr (inr (inr (end_brace i.closing)));
        first = λ k l u. no_end_here (i.body k l u);
      }

  closing_is : {h : Header} → IsHeader s at h → (closing_at (window s at) h.right) ≡ Some (at + h.length)
  closing_is {h} i =
      finds_some (finds_closing s at h.right (header-end i).within (end_brace i.closing))
      (λ n p q. end_unique p.pattern q.pattern) (record { pattern = i.closing; within = omega (arith, i.short) })

  pub header_complete : {h : Header} → IsHeader s at h → header_at s at ≡ Ok h
  unfolding header_at frame_at
  header_complete {h} i =
      let e = header-end i in
      rw (opening_is i.opening, end_is e, byte-is e, end_brace i.closing, closing_is i)
      (rw (add-sub_cancel_left at h.length))

  pub header_sound : {h : Header} → header_at s at ≡ Ok h → IsHeader s at h
  header_sound e = rw e at (header_says s at)
