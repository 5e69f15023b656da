-- A list behind another: its bytes stand there at offsets moved by the length of the first, and a search finds the same.
use Rattle.std.specs.Prelude.{Option, ℕ, Some, None}
use mathlib.Core.Path.{◌≡◌, refl}
use mathlib.Core.Bool.{Bool}
use mathlib.Core.List.{List, [], ◌∷◌, ◌++◌}
use Prim.Native.Nat.{ℕ, suc, ◌+◌}
use native.Mathlib.Omega.{arith}
use lib.ListN.{length, take, drop}
use lib.Seq.{take-append-add, drop-append-add, get_or-append-add}
use Rattle.scan.specs.Byte.{byte, between, bytes_at}
use Rattle.scan.specs.Search.{first_with, first_from}
use Rattle.scan.specs.declared.Span.{Span}
use Rattle.scan.proofs.Cases.{by_test}
use Rattle.locality.specs.Moved.{moved_span}

-- ---- Bytes

module _ (p s : List ℕ) where
  pub byte_shift : (k : ℕ) → byte (p ++ s) (length p + k) ≡ byte s k
  byte_shift k = get_or-append-add p s k 0

  -- The same for an offset that is written some other way.
  pub byte_shift_at : (i k : ℕ) → i ≡ length p + k → byte (p ++ s) i ≡ byte s k
  byte_shift_at i k e = rw e (byte_shift k)

  pub between_shift : (from to : ℕ) → between (p ++ s) (length p + from) (length p + to) ≡ between s from to
  between_shift from to = rw (take-append-add p s to, drop-append-add p (take to s) from)

  pub bytes_shift : (x : Span) → bytes_at (p ++ s) (moved_span (length p) x) ≡ bytes_at s x
  bytes_shift x = rw (drop-append-add p s x.offset)

-- ---- Searches

abbrev pub moved_found : ℕ → Option ℕ → Option ℕ
moved_found n (Some i) = Some (n + i)
moved_found n None = None

module _ (test : ℕ → Bool) (n : ℕ) where
  with_shift : (l : List ℕ) (at : ℕ) → first_with test l (n + at) ≡ moved_found n (first_with test l at)
  unfolding first_with
  with_shift [] at = refl
  with_shift (b ∷ bs) at =
      let e : suc (n + at) ≡ n + suc at = omega arith in
      by_test (test b) (λ t. rw (t, first_with)) (λ f. rw (f, first_with, e) (with_shift bs (suc at)))

pub search_shift : (test : ℕ → Bool) (p s : List ℕ) (at : ℕ)
    → first_from test (p ++ s) (length p + at) ≡ moved_found (length p) (first_from test s at)
unfolding first_from
search_shift test p s at = rw (drop-append-add p s at) (with_shift test (length p) (drop at s) at)

-- By what a search answers, with the equation in hand.
pub by_found {ℓ} : {X : Type ℓ} (f : Option ℕ) → ((i : ℕ) → f ≡ Some i → X) → (f ≡ None → X) → X
by_found (Some i) g h = g i refl
by_found None g h = h refl
