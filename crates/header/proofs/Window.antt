-- A window is a prefix of the file, so that offsets are the file's. The patterns of a header, and its body's end, in the
-- window are those of the file that lie wholly inside it.
use mathlib.Core.Path.{◌≡◌, sym, ◌∙◌}
use mathlib.Core.List.{List}
use Prim.Native.Nat.{ℕ, ◌≤◌, ◌<◌}
use native.Mathlib.Omega.{arith}
use lib.ListN.{take, length-take}
use lib.Seq.{get_or-take}
use Rattle.scan.specs.Byte.{byte}
use Rattle.scan.proofs.Cases.{byte_inside}
use Rattle.header.specs.Grammar.{StartPattern, EndPattern}

module _ (n : ℕ) (s : List ℕ) where
  -- A byte other than 0 of the window is the file's,
  out : {k b : ℕ} → byte (take n s) k ≡ b → 1 ≤ b → (k < n) × (byte s k ≡ b)
  out {k} {b} e h =
      let l : k < n = omega (arith, byte_inside (take n s) k b e h, length-take n s) in
      (l, sym (get_or-take n s k 0 l) ∙ e)

  -- and back.
  into : {k b : ℕ} → k < n → byte s k ≡ b → byte (take n s) k ≡ b
  into {k} l e = get_or-take n s k 0 l ∙ e

  pub start_out : {at i : ℕ} → StartPattern (take n s) at i → StartPattern s at i
  start_out (StartPattern.bare p) = StartPattern.bare (out p (omega arith)).1
  start_out (StartPattern.lf p q) = StartPattern.lf (out p (omega arith)).1 (out q (omega arith)).1
  start_out (StartPattern.crlf p q r) =
      StartPattern.crlf (out p (omega arith)).1 (out q (omega arith)).1 (out r (omega arith)).1

  pub start_into : {at i : ℕ} → i < n → StartPattern s at i → StartPattern (take n s) at i
  start_into l (StartPattern.bare p) = StartPattern.bare (into l p)
  start_into l (StartPattern.lf p q) = StartPattern.lf (into (omega arith) p) (into l q)
  start_into l (StartPattern.crlf p q r) = StartPattern.crlf (into (omega arith) p) (into (omega arith) q) (into l r)

  pub end_out : {c i : ℕ} → EndPattern (take n s) c i → EndPattern s c i × (i ≤ n)
  end_out (EndPattern.lf p q) =
      let l = out q (omega arith) in
      (EndPattern.lf (out p (omega arith)).1 l.1, omega (arith, l.0))
  end_out (EndPattern.crlf p q r) =
      let l = out r (omega arith) in
      (EndPattern.crlf (out p (omega arith)).1 (out q (omega arith)).1 l.1, omega (arith, l.0))

  pub end_into : {c i : ℕ} → i ≤ n → EndPattern s c i → EndPattern (take n s) c i
  end_into l (EndPattern.lf p q) = EndPattern.lf (into (omega arith) p) (into (omega arith) q)
  end_into l (EndPattern.crlf p q r) = EndPattern.crlf (into (omega arith) p) (into (omega arith) q) (into (omega arith) r)
