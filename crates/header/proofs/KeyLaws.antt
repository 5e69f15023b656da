-- How long a key is: it has a character exactly if a byte that is no whitespace stands before the `=`, and no more characters
-- than bytes stand there.
use mathlib.Core.Path.{◌≡◌, refl}
use mathlib.Core.Bool.{true}
use mathlib.Core.List.{List, [], ◌∷◌}
use Prim.Native.Nat.{ℕ, zero, suc, ◌+◌, ◌-◌, ◌≤◌, ◌<◌, zero-le, suc-le-suc}
use native.Mathlib.Nat.{le_of_suc-le-suc, not-suc-le-zero}
use native.Mathlib.Omega.{arith}
use borrow.Author.Tests.{not-true, not-false}
use lib.ListN.{length, length-map}
use lib.Seq.{length-slice, get_or-drop, get_or-take}
use Rattle.scan.specs.Byte.{byte, between}
use Rattle.scan.specs.First.{Without}
use Rattle.scan.proofs.Cases.{by_test}
use Rattle.text.specs.Fold.{fold}
use Rattle.text.specs.Key.{strip, key_of}
use Rattle.text.specs.Whitespace.{whitespace, visible}
use Rattle.header.specs.Entry.{key}
use Rattle.header.specs.declared.Statement.{Statement}

strip_some : (l : List ℕ) (k : ℕ) → k < length l → visible (byte l k) ≡ true → 1 ≤ length (strip l)
unfolding strip visible
strip_some [] k h e = absurd (not-suc-le-zero h)
strip_some (b ∷ bs) zero h e = rw (not-true (whitespace b) e) (suc-le-suc zero-le)
strip_some (b ∷ bs) (suc k) h e =
    by_test (whitespace b) (λ w. rw w (strip_some bs k (le_of_suc-le-suc h) e)) (λ w. rw w (suc-le-suc zero-le))

strip_none : (l : List ℕ) → Without visible l 0 (length l) → length (strip l) ≡ 0
unfolding strip visible
strip_none [] h = refl
strip_none (b ∷ bs) h =
    rw (not-false (whitespace b) (h 0 zero-le (suc-le-suc zero-le)))
    (strip_none bs (λ k l u. h (suc k) zero-le (suc-le-suc u)))

strip_shorter : (l : List ℕ) → length (strip l) ≤ length l
unfolding strip
strip_shorter [] = zero-le
strip_shorter (b ∷ bs) =
    by_test (whitespace b) (λ w. rw w (omega (arith, strip_shorter bs))) (λ w. rw w (suc-le-suc (strip_shorter bs)))

pub key_shorter : (l : List ℕ) → length (key_of l) ≤ length l
unfolding key_of
key_shorter l = rw (length-map (strip l) fold) (strip_shorter l)

-- A byte of a part of the file.
pub between_at : (s : List ℕ) (from to k : ℕ) → from + k < to → byte (between s from to) k ≡ byte s (from + k)
between_at s from to k h = rw (get_or-drop, get_or-take)

module _ (s : List ℕ) (t : Statement) (inside : t.equals ≤ length s) where
  abbrev raw_key : List ℕ
  raw_key = between s t.first t.equals

  raw_length : length raw_key ≡ t.equals - t.first
  raw_length = length-slice t.first t.equals s inside

  key-length : length (key s t) ≡ length (strip raw_key)
  unfolding key key_of
  key-length = length-map (strip raw_key) fold

  pub visible-key : (d : ℕ) → t.first ≤ d → d < t.equals → visible (byte s d) ≡ true → 1 ≤ length (key s t)
  visible-key d l u e =
      let same : t.first + (d - t.first) ≡ d = omega arith in
      rw key-length
      (strip_some raw_key (d - t.first) (omega (arith, raw_length))
      (rw (between_at s t.first t.equals (d - t.first) (omega arith), same) e))

  pub whitespace-key : Without visible s t.first t.equals → length (key s t) ≡ 0
  whitespace-key w =
      rw key-length
      (strip_none raw_key
      (λ k l u. let before : t.first + k < t.equals = omega (arith, raw_length) in
      rw (between_at s t.first t.equals k before) (w (t.first + k) (omega arith) before)))
