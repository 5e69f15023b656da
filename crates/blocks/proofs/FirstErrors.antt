-- The frame of a first header that proves kind 2, judged at 0: the errors that 02, No. 4, names, and no other.
use mathlib.Core.Path.{◌≡◌, refl, sym, subst}
use mathlib.Core.List.{List}
use mathlib.Core.Logic.{◌↔◌, inr}
use Prim.Native.Nat.{ℕ, ◌+◌, ◌<◌}
use native.Mathlib.Omega.{arith}
use Rattle.scan.specs.Byte.{byte}
use Rattle.scan.specs.declared.Error.{Error}
use Rattle.scan.proofs.Cases.{by_order}
use Rattle.header.specs.Cases.{EndsBody, BodyEnd, NoEnd, FrameError}
use Rattle.header.specs.Grammar.{StartPattern, EndPattern}
use Rattle.header.specs.declared.Header.{Header}
use Rattle.header.proofs.FrameLaws.{header_inside, header_order}
use Rattle.header.proofs.FrameParts.{no_end_here}
use Rattle.header.proofs.Unambiguous.{end_unique, end_brace}
use Rattle.blocks.specs.Cases.{NextAt, ProvesKind2, ZeroFrameError, no-pattern, too_long}
use Rattle.blocks.specs.Places.{kind_1}
use Rattle.blocks.proofs.Coded.{kinds_differ}
use Rattle.blocks.proofs.Gaps.{next_unique, pattern_blank, brace_visible, start_bare}

module _ {s : List ℕ} {at : ℕ} (n : NextAt s kind_1 0 at) (p : ProvesKind2 s at) where
  abbrev h : Header
  h = p.header

  -- The brace of a start pattern at 0 is that of the header.
  brace_is : {left : ℕ} → StartPattern s 0 left → left ≡ at
  brace_is o =
      next_unique s
      (record {
        gap = record { order = omega arith; only_whitespace = pattern_blank o; end_to_end = λ q. absurd (kinds_differ q) };
        visible = λ q. brace_visible o;
      })
      n

  left_is : h.left ≡ at
  left_is = start_bare p.stands.opening (n.visible refl)

  right_ends : EndsBody (byte s h.right)
  right_ends = inr (inr (inr (end_brace p.stands.closing)))

  -- The body ends where it ends in the header.
  end_is : {left c : ℕ} → StartPattern s 0 left → BodyEnd s 0 left c → c ≡ h.right
  end_is {left} {c} o b =
      let q : left ≡ at = brace_is o in
      by_order c h.right
      (λ le. by_order h.right c (λ ge. omega arith)
      (λ lt. absurd (no_end_here (p.stands.body c (omega (arith, left_is, b.after)) lt) b.ends)))
      (λ lt. absurd (b.first h.right (omega (arith, header_order p.stands, left_is)) lt right_ends))

  body_ends : StartPattern s 0 at → h.right < 65536 → BodyEnd s 0 at h.right
  body_ends o l = record {
    after = omega (arith, header_order p.stands, left_is);
    inside = omega (arith, header_inside p.stands);
    within = omega arith;
    ends = right_ends;
    first = λ k a u. no_end_here (p.stands.body k (omega (arith, left_is)) u);
  }

  -- Where no end pattern is complete within 65,536 bytes from 0, the header passes them.
  no_end_long : NoEnd s 0 → StartPattern s 0 at × (65536 < at + h.length)
  no_end_long (NoEnd.unended o e) =
      let start : StartPattern s 0 at = subst (StartPattern s 0) (brace_is o) o in (
        start,
        by_order 65536 h.right (λ l. omega (arith, header_inside p.stands))
            (λ l. absurd (e h.right (subst (λ (i : ℕ). BodyEnd s 0 i h.right) (sym (brace_is o)) (body_ends start l)))),
      )
  no_end_long (NoEnd.unclosed {c = c} o b q e) =
      let x = p.stands.closing in
      let c-is : c ≡ h.right = end_is o b in (
        subst (StartPattern s 0) (brace_is o) o,
        by_order (at + h.length) 65536
            (λ l. absurd (e (at + h.length) (record { pattern = subst (λ (i : ℕ). EndPattern s i (at + h.length)) (sym c-is) x; within = omega arith })))
            (λ l. l),
      )

  long_no_end : StartPattern s 0 at → 65536 < at + h.length → NoEnd s 0
  long_no_end o l =
      by_order 65536 h.right
      (λ far. NoEnd.unended o (λ c b. omega (arith, end_is o b, b.within)))
      (λ near. NoEnd.unclosed o (body_ends o near) (end_brace p.stands.closing)
      (λ next z. omega (arith, z.within, end_unique z.pattern p.stands.closing)))

  zero_frame_sound : {e : Error} → FrameError s 0 e → ZeroFrameError s at h e
  zero_frame_sound (FrameError.no_start q) = no-pattern q
  zero_frame_sound (FrameError.bad-byte b) =
      absurd (b.not_right (subst (λ (i : ℕ). byte s i ≡ 125) (sym (end_is b.opening b.end)) (end_brace p.stands.closing)))
  zero_frame_sound (FrameError.no_end q) = let x = no_end_long q in too_long x.0 x.1

  zero_frame_complete : {e : Error} → ZeroFrameError s at h e → FrameError s 0 e
  zero_frame_complete (no-pattern q) = FrameError.no_start q
  zero_frame_complete (too_long o l) = FrameError.no_end (long_no_end o l)

  pub zero_frame : {e : Error} → FrameError s 0 e ↔ ZeroFrameError s at h e
  zero_frame = (zero_frame_sound, zero_frame_complete)
