-- Searching for the end of a body many bytes at a time: bytes that may all stand in it are passed over.
use mathlib.Core.Path.{◌≡◌, refl, ap, ◌∙◌}
use mathlib.Core.Bool.{Bool, true, false, not}
use mathlib.Core.List.{List}
use Prim.Native.Nat.{ℕ, zero, suc, ◌+◌, ◌-◌, ◌≤◌, ◌<◌}
use native.Mathlib.Omega.{arith}
use lib.ListN.{length, take, drop}
use lib.Seq.{drop-cons}
use Rattle.scan.specs.Byte.{byte}
use Rattle.scan.specs.Search.{first_from}
use Rattle.scan.proofs.Cases.{by_test, clash}
use Rattle.scan.proofs.Searches.{search_miss}
use Rattle.text.specs.Text.{every}

-- ---- Bytes that are passed over

module _ (p : ℕ → Bool) (s : List ℕ) where
  search_over : (n i : ℕ) → i + n ≤ length s → every (λ (b : ℕ). not (p b)) (take n (drop i s)) ≡ true
      → first_from p s i ≡ first_from p s (i + n)
  search_over zero i h e = ap (first_from p s) (omega arith)
  search_over (suc n) i h e =
      let inside : i < length s = omega arith in
      by_test (p (byte s i))
      (λ t. absurd (clash false (rw (drop-cons s i 0, t) at e) refl))
      (λ f. search_miss p s i inside f
      ∙ search_over n (suc i) (omega arith) (rw (drop-cons s i 0, f) at e)
      ∙ ap (first_from p s) (omega arith))

  -- The same of a part that is lent.
  pub search_past : (i e : ℕ) → i ≤ e → e ≤ length s → every (λ (b : ℕ). not (p b)) (take (e - i) (drop i s)) ≡ true
      → first_from p s i ≡ first_from p s e
  search_past i e l h t = search_over (e - i) i (omega arith) t ∙ ap (first_from p s) (omega arith)
