-- The frame of a header in a file behind another: the same, or the same error, with its offsets moved by the length of the first.
use Rattle.std.specs.Prelude.{Some, None}
use mathlib.Core.Path.{◌≡◌, refl, ap}
use mathlib.Core.Bool.{Bool, true, false, cond}
use mathlib.Core.List.{List, ◌++◌}
use Prim.Native.Nat.{ℕ, suc, ◌+◌, ◌-◌}
use native.Mathlib.Omega.{arith}
use lib.Dec.{eqb}
use lib.ListN.{length, take}
use lib.Seq.{take-append-add}
use Rattle.scan.specs.Byte.{byte}
use Rattle.scan.specs.Search.{first_from}
use Rattle.scan.proofs.Cases.{by_test}
use Rattle.header.specs.Frame.{opening_at, closing_at, ends_body, frame_at, header_at}
use Rattle.header.specs.Limits.{header_limit}
use Rattle.locality.specs.Moved.{moved_outcome, moved_header}
use Rattle.locality.proofs.Searches.{moved_found, byte_shift, byte_shift_at, search_shift, by_found}

-- The patterns, by the tests that are made.
module _ (n at : ℕ) where
  opening_by : (a b c d e f : Bool)
      → cond a (Some (n + at)) (cond b (cond c (Some (n + at + 1)) None) (cond d (cond e (cond f (Some (n + at + 2)) None) None) None))
      ≡ moved_found n (cond a (Some at) (cond b (cond c (Some (at + 1)) None) (cond d (cond e (cond f (Some (at + 2)) None) None) None)))
  opening_by true b c d e f = refl
  opening_by false true true d e f = ap Some (omega arith)
  opening_by false true false d e f = refl
  opening_by false false c true true true = ap Some (omega arith)
  opening_by false false c true true false = refl
  opening_by false false c true false f = refl
  opening_by false false c false e f = refl

  closing_by : (a b c : Bool)
      → cond a (Some (n + at + 2)) (cond b (cond c (Some (n + at + 3)) None) None)
      ≡ moved_found n (cond a (Some (at + 2)) (cond b (cond c (Some (at + 3)) None) None))
  closing_by true b c = ap Some (omega arith)
  closing_by false true true = ap Some (omega arith)
  closing_by false true false = refl
  closing_by false false c = refl

module _ (p s : List ℕ) where
  one_on : (at : ℕ) → byte (p ++ s) (length p + at + 1) ≡ byte s (at + 1)
  one_on at = byte_shift_at p s (length p + at + 1) (at + 1) (omega arith)

  two_on : (at : ℕ) → byte (p ++ s) (length p + at + 2) ≡ byte s (at + 2)
  two_on at = byte_shift_at p s (length p + at + 2) (at + 2) (omega arith)

  opening_shift : (at : ℕ) → opening_at (p ++ s) (length p + at) ≡ moved_found (length p) (opening_at s at)
  unfolding opening_at
  opening_shift at = rw (byte_shift p s at, one_on at, two_on at) (opening_by (length p) at
      (eqb (byte s at) 123) (eqb (byte s at) 10) (eqb (byte s (at + 1)) 123)
      (eqb (byte s at) 13) (eqb (byte s (at + 1)) 10) (eqb (byte s (at + 2)) 123))

  closing_shift : (at : ℕ) → closing_at (p ++ s) (length p + at) ≡ moved_found (length p) (closing_at s at)
  unfolding closing_at
  closing_shift at = rw (one_on at, two_on at) (closing_by (length p) at
      (eqb (byte s (at + 1)) 10) (eqb (byte s (at + 1)) 13) (eqb (byte s (at + 2)) 10))

  frame_shift : (at : ℕ) → frame_at (p ++ s) (length p + at) ≡ moved_outcome (length p) (moved_header (length p)) (frame_at s at)
  unfolding frame_at
  frame_shift at =
      by_found (opening_at s at)
      (λ left e.
      let next : suc (length p + left) ≡ length p + suc left = omega arith in
      by_found (first_from ends_body s (suc left))
      (λ right f. by_test (eqb (byte s right) 125)
      (λ t. by_found (closing_at s right)
      (λ end g.
      let l : (length p + end) - (length p + at) ≡ end - at = omega arith in
      rw (opening_shift at, e, next, search_shift ends_body p s (suc left), f, byte_shift p s right, t, closing_shift right, g, l))
      (λ g. rw (opening_shift at, e, next, search_shift ends_body p s (suc left), f, byte_shift p s right, t, closing_shift right, g)))
      (λ t. rw (opening_shift at, e, next, search_shift ends_body p s (suc left), f, byte_shift p s right, t)))
      (λ f. rw (opening_shift at, e, next, search_shift ends_body p s (suc left), f)))
      (λ e. rw (opening_shift at, e))

-- "within the block's first 65,536 bytes"
pub header_shift : (p s : List ℕ) (at : ℕ) → header_at (p ++ s) (length p + at) ≡ moved_outcome (length p) (moved_header (length p)) (header_at s at)
unfolding header_at
header_shift p s at =
    let e : length p + at + header_limit ≡ length p + (at + header_limit) = omega arith in
    rw (e, take-append-add p s (at + header_limit)) (frame_shift p (take (at + header_limit) s) at)
