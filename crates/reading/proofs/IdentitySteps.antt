-- What stands behind a prefix, and where the first point of a value is.
use Rattle.std.proofs.Common.{◌≡◌, ℕ, ◌<◌, true, false, List, [], ◌∷◌, length, take, drop, None, Some, refl, sym, ◌∙◌, nat_eq}
use lib.Pointwise.{pointwise}
use Rattle.scan.specs.Byte.{same}
use Rattle.scan.specs.First.{First}
use Rattle.scan.specs.Search.{first_from, is}
use Rattle.scan.proofs.Searches.{search_says}
use Rattle.blocks.specs.Reading.{after_prefix}

same_pointwise : (a b : List ℕ) → pointwise nat_eq a b ≡ same a b
unfolding same
same_pointwise [] [] = refl
same_pointwise [] (y ∷ b) = refl
same_pointwise (x ∷ a) [] = refl
same_pointwise (x ∷ a) (y ∷ b) = rw (same_pointwise a b)

-- By whether a prefix stands in front, as the library tests it.
module _ (p l : List ℕ) where
  pub prefix_there : pointwise nat_eq (take (length p) l) p ≡ true → after_prefix p l ≡ Some (drop (length p) l)
  unfolding after_prefix
  prefix_there e = rw (sym (same_pointwise (take (length p) l) p) ∙ e)

  pub prefix_missing : pointwise nat_eq (take (length p) l) p ≡ false → after_prefix p l ≡ None
  unfolding after_prefix
  prefix_missing e = rw (sym (same_pointwise (take (length p) l) p) ∙ e)

-- The first point lies inside.
pub point_inside : (v : List ℕ) {i : ℕ} → first_from (is 46) v 0 ≡ Some i → i < length v
point_inside v {i} e = let f : First (is 46) v 0 i = rw e at (search_says (is 46) v 0) in f.inside
