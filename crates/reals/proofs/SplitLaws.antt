-- A text cut at the first byte of a kind: the two parts, and that joined they are the text.
use Rattle.std.specs.Prelude.{Option, None, Some, ℕ}
use mathlib.Core.Path.{◌≡◌, refl, sym, ap, ◌∙◌}
use mathlib.Core.List.{List, [], ◌∷◌, ◌++◌, append-nil}
use Prim.Native.Nat.{ℕ}
use native.Mathlib.Numerals.{add-one}
use native.Mathlib.Omega.{arith}
use borrow.Author.Tests.{eqb-true, eq-eqb}
use lib.ListN.{length, drop, length-append, get_or-append}
use lib.Seq.{take-append_seam, drop-append_seam, get_or-append_seam, drop-drop, split_at}
use Rattle.scan.specs.Byte.{byte}
use Rattle.scan.specs.Search.{first_from, is}
use Rattle.scan.proofs.Cases.{clash}
use Rattle.scan.proofs.Searches.{FoundSays, search_says, search_is}
use Rattle.text.proofs.Parts.{each-byte}
use Rattle.reals.specs.Cut.{before, after}
use Rattle.reals.proofs.FreeLaws.{FreeOf}

-- The byte and what stands after it; nothing where it does not stand there.
abbrev pub from : ℕ → Option (List ℕ) → List ℕ
from b None = []
from b (Some w) = b ∷ w

-- ---- A text that is joined so is cut so

module _ (b : ℕ) (front : List ℕ) (free : FreeOf b front) where
  not_found : first_from (is b) front 0 ≡ None
  not_found = go (first_from (is b) front 0) (search_says (is b) front 0)
    where
      go : (f : Option ℕ) → FoundSays (is b) front 0 f → f ≡ None
      go (Some i) h = absurd (clash (is b (byte front i)) h.here (each-byte front free i h.inside))
      go None w = refl

  found_at : (w : List ℕ) → first_from (is b) (front ++ (b ∷ w)) 0 ≡ Some (length front)
  found_at w =
      search_is (is b) (front ++ (b ∷ w))
      (record {
        from = omega arith;
        inside = omega (arith, length-append front (b ∷ w));
        here = rw (get_or-append_seam front b w 0) (eq-eqb b b refl);
        before = λ k l u. rw (get_or-append front (b ∷ w) 0 k u) (each-byte front free k u);
      })

  pub split-before : (o : Option (List ℕ)) → before (first_from (is b) (front ++ from b o) 0) (front ++ from b o) ≡ front
  split-before None = rw (append-nil front, not_found)
  split-before (Some w) = rw (found_at w) (take-append_seam front (b ∷ w))

  pub split_after : (o : Option (List ℕ)) → after (first_from (is b) (front ++ from b o) 0) (front ++ from b o) ≡ o
  split_after None = rw (append-nil front, not_found)
  split_after (Some w) =
      rw (found_at w)
      (ap Some (sym (drop-drop 1 (length front) (front ++ (b ∷ w))) ∙ ap (drop 1) (drop-append_seam front (b ∷ w))))

-- ---- A text is what it is cut into

pub rejoined : (b : ℕ) (l : List ℕ) → l ≡ before (first_from (is b) l 0) l ++ from b (after (first_from (is b) l 0) l)
rejoined b l = go (first_from (is b) l 0) (search_says (is b) l 0)
  where
    go : (f : Option ℕ) → FoundSays (is b) l 0 f → l ≡ before f l ++ from b (after f l)
    go (Some i) h =
        let e : byte l i ≡ b = eqb-true (byte l i) b h.here in
        split_at l i 0 h.inside ∙ rw (e, add-one)
    go None w = sym (append-nil l)
