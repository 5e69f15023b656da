-- Each error of 01's table from 3 to 8 is given exactly in its case, and no other error is.
use Rattle.std.specs.Prelude.{Err}
use mathlib.Core.Path.{◌≡◌}
use mathlib.Core.List.{List}
use Prim.Native.Nat.{ℕ}
use Rattle.scan.specs.declared.Error.{Error}
use Rattle.header.specs.Cases.{FrameError, no_start, bad-byte, no_end, StatementsError, malformed, too_long, key_twice}
use Rattle.header.specs.Frame.{header_at}
use Rattle.header.specs.Statements.{statements_of}
use Rattle.header.specs.declared.Header.{Header}
use Rattle.header.proofs.FrameLaws.{header_says, no-start-answer, bad-byte-answer, no-end-answer}
use Rattle.header.proofs.StatementLaws.{statements_says, malformed_answer, too_long_answer, key_twice_answer}

-- The frame: 3, 4 and 5.
module _ (s : List ℕ) (at : ℕ) where
  pub header_error : {e : Error} → header_at s at ≡ Err e → FrameError s at e
  header_error q = rw q at (header_says s at)

  pub header_error_complete : {e : Error} → FrameError s at e → header_at s at ≡ Err e
  header_error_complete (no_start n) = no-start-answer n
  header_error_complete (bad-byte b) = bad-byte-answer b
  header_error_complete (no_end n) = no-end-answer n

-- The statements: 6, 7 and 8.
module _ (s : List ℕ) (at : ℕ) (h : Header) where
  pub statements_error : {e : Error} → statements_of s at h ≡ Err e → StatementsError s h at e
  statements_error q = rw q at (statements_says s at h)

  pub statements_error_complete : {e : Error} → StatementsError s h at e → statements_of s at h ≡ Err e
  statements_error_complete (malformed b) = malformed_answer s at h b
  statements_error_complete (too_long l) = too_long_answer s at h l
  statements_error_complete (key_twice k) = key_twice_answer s at h k
