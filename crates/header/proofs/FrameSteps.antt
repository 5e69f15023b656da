-- Where the parts of a frame lie, and the window that `header_at` looks at.
use Rattle.std.specs.Prelude.{Option, ℕ, Some, None}
use Rattle.scan.specs.Outcome.{refused}
use mathlib.Core.Path.{◌≡◌, refl}
use mathlib.Core.List.{List}
use Prim.Native.Nat.{ℕ, ◌+◌, ◌≤◌, ◌<◌}
use native.Mathlib.Omega.{arith}
use lib.Dec.{eqb}
use lib.ListN.{length, take, length-take, get_or-eq_default}
use lib.Seq.{take_all}
use Rattle.scan.specs.Byte.{byte}
use Rattle.scan.specs.First.{First}
use Rattle.scan.specs.Search.{first_from}
use Rattle.scan.proofs.Cases.{by_test}
use Rattle.scan.proofs.Searches.{search_says}
use Rattle.header.specs.Frame.{opening_at, closing_at, ends_body, frame_at, header_at}

-- ---- Where the patterns lie

abbrev Near : ℕ → ℕ → Option ℕ → Type 0
Near low high (Some i) = (low ≤ i) × (i ≤ high)
Near low high None = Unit {0}

module _ (s : List ℕ) where
  near_opening : (start : ℕ) → Near start (start + 2) (opening_at s start)
  unfolding opening_at
  near_opening start =
      by_test (eqb (byte s start) 123) (λ e. rw e (omega arith, omega arith))
      (λ n. rw n (by_test (eqb (byte s start) 10)
      (λ e. rw e (by_test (eqb (byte s (start + 1)) 123) (λ f. rw f (omega arith, omega arith)) (λ f. rw f tt)))
      (λ m. rw m (by_test (eqb (byte s start) 13)
      (λ e. rw e (by_test (eqb (byte s (start + 1)) 10)
      (λ f. rw f (by_test (eqb (byte s (start + 2)) 123) (λ g. rw g (omega arith, omega arith)) (λ g. rw g tt)))
      (λ f. rw f tt)))
      (λ e. rw e tt)))))

  near_closing : (right : ℕ) → Near (right + 2) (right + 3) (closing_at s right)
  unfolding closing_at
  near_closing right =
      by_test (eqb (byte s (right + 1)) 10) (λ e. rw e (omega arith, omega arith))
      (λ n. rw n (by_test (eqb (byte s (right + 1)) 13)
      (λ e. rw e (by_test (eqb (byte s (right + 2)) 10) (λ f. rw f (omega arith, omega arith)) (λ f. rw f tt)))
      (λ e. rw e tt)))

  pub opening_near : (start : ℕ) {left : ℕ} → opening_at s start ≡ Some left → (start ≤ left) × (left ≤ start + 2)
  opening_near start {left} e =
      let n : Near start (start + 2) (Some left) = rw e at (near_opening start) in
      n

  pub closing_near : (right : ℕ) {next : ℕ} → closing_at s right ≡ Some next → (right + 2 ≤ next) × (next ≤ right + 3)
  closing_near right {next} e =
      let n : Near (right + 2) (right + 3) (Some next) = rw e at (near_closing right) in
      n

  pub end_inside : (from : ℕ) {right : ℕ} → first_from ends_body s from ≡ Some right → (from ≤ right) × (right < length s)
  end_inside from {right} e =
      let f : First ends_body s from right = rw e at (search_says ends_body s from) in
      (f.from, f.inside)

-- ---- The window

module _ (s : List ℕ) (start : ℕ) where
  -- No header stands past the end,
  pub past_the_end : length s ≤ start → header_at s start ≡ refused 3 start
  unfolding header_at frame_at opening_at
  past_the_end h =
      let none : byte (take (start + 65536) s) start ≡ 0 =
      get_or-eq_default (take (start + 65536) s) 0 (omega (arith, length-take (start + 65536) s)) in
      rw none

  -- a short rest is looked at whole,
  pub whole_rest : length s ≤ start + 65536 → frame_at s start ≡ header_at s start
  unfolding header_at
  whole_rest h = rw (take_all (start + 65536) s h)

  -- and of a longer one the window.
  pub in_window : frame_at (take (start + 65536) s) start ≡ header_at s start
  unfolding header_at
  in_window = refl
