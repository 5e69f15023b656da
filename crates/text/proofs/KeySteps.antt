-- Keys read from left to right: what is left of a key from an offset on.
use Rattle.std.specs.Prelude.{Some, None}
use Rattle.std.proofs.lemmas.List.{length-map}
use mathlib.Core.Path.{◌≡◌, sym, ap, ◌∙◌}
use mathlib.Core.Bool.{true, false}
use mathlib.Core.List.{List, [], ◌∷◌}
use Prim.Native.Nat.{ℕ, zero, suc, ◌+◌, ◌-◌, ◌≤◌, ◌<◌}
use native.Mathlib.Numerals.{add-one}
use native.Mathlib.Omega.{arith}
use borrow.Author.Tests.{not-true, not-false}
use lib.ListN.{length, drop, drop_of_length-le}
use lib.Seq.{drop-cons}
use Rattle.scan.specs.Byte.{byte}
use Rattle.scan.specs.First.{First, Without}
use Rattle.scan.specs.Search.{first_from}
use Rattle.scan.proofs.Cases.{by_test, by_order}
use Rattle.scan.proofs.Searches.{search_says}
use Rattle.text.specs.Fold.{fold}
use Rattle.text.specs.Key.{strip, key_of}
use Rattle.text.specs.Whitespace.{whitespace, visible}

-- A key has no more characters than bytes.
strip-length : (l : List ℕ) → length (strip l) ≤ length l
unfolding strip
strip-length [] = omega arith
strip-length (b ∷ l) =
    by_test (whitespace b) (λ e. rw e (omega (arith, strip-length l))) (λ e. rw e (omega (arith, strip-length l)))

pub key-length : (l : List ℕ) → length (key_of l) ≤ length l
unfolding key_of
key-length l = rw length-map (strip-length l)

-- What is left of a key from an offset on.
unfoldable pub key_from : List ℕ → ℕ → List ℕ
key_from l i = key_of (drop i l)

module _ (l : List ℕ) where
  module _ (i : ℕ) where
    key_end : length l ≤ i → key_from l i ≡ []
    unfolding key_from key_of strip
    key_end h = rw (drop_of_length-le l h)

    key-over : i < length l → visible (byte l i) ≡ false → key_from l i ≡ key_from l (suc i)
    unfolding key_from key_of strip visible
    key-over h e = rw (drop-cons l i 0 h, not-false (whitespace (byte l i)) e)

    key_takes : i < length l → visible (byte l i) ≡ true → key_from l i ≡ fold (byte l i) ∷ key_from l (suc i)
    unfolding key_from key_of strip visible
    key_takes h e = rw (drop-cons l i 0 h, not-true (whitespace (byte l i)) e)

  -- Over whitespace nothing changes.
  over-whitespace : (n i : ℕ) → i + n ≤ length l → Without visible l i (i + n) → key_from l i ≡ key_from l (i + n)
  over-whitespace zero i h w = ap (key_from l) (omega arith)
  over-whitespace (suc n) i h w =
      let e : suc i + n ≡ i + suc n = omega arith in
      key-over i (omega arith) (w i (omega arith) (omega arith))
      ∙ over-whitespace n (suc i) (omega arith) (λ k a b. w k (omega arith) (omega arith))
      ∙ ap (key_from l) e

  -- What a search for a visible byte says of it.
  pub key_none : (i : ℕ) → first_from visible l i ≡ None → key_from l i ≡ []
  key_none i e =
      let w : Without visible l i (length l) = rw e at (search_says visible l i) in
      by_order (length l) i (λ out. key_end i out)
      (λ lt. let q : i + (length l - i) ≡ length l = omega arith in
      over-whitespace (length l - i) i (omega arith) (rw q w) ∙ key_end (i + (length l - i)) (omega arith))

  pub key_next : (i x : ℕ) → first_from visible l i ≡ Some x → key_from l i ≡ fold (byte l x) ∷ key_from l (x + 1)
  key_next i x e =
      let f : First visible l i x = rw e at (search_says visible l i) in
      let q : i + (x - i) ≡ x = omega (arith, f.from) in
      over-whitespace (x - i) i (omega (arith, f.inside)) (rw q f.before) ∙ ap (key_from l) q
      ∙ key_takes x f.inside f.here ∙ ap (λ (k : ℕ). fold (byte l x) ∷ key_from l k) (sym (add-one x))

  -- The byte found stands at or after the offset, inside.
  pub visible_inside : (i x : ℕ) → first_from visible l i ≡ Some x → (i ≤ x) × (x < length l)
  visible_inside i x e =
      let f : First visible l i x = rw e at (search_says visible l i) in
      (f.from, f.inside)
