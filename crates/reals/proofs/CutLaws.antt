-- A byte that is found stands inside.
use Rattle.std.specs.Prelude.{Some, Option, ℕ}
use mathlib.Core.Path.{◌≡◌, sym, ◌∙◌, subst}
use mathlib.Core.List.{List}
use Prim.Native.Nat.{ℕ, ◌<◌}
use lib.ListN.{length}
use Rattle.scan.specs.Search.{first_from, is}
use Rattle.scan.proofs.Searches.{FoundSays, search_says}

pub found_inside : (b : ℕ) (l : List ℕ) (r : Option ℕ) (i : ℕ) → r ≡ first_from (is b) l 0 → r ≡ Some i → i < length l
found_inside b l r i e d = (subst (λ (x : Option ℕ). FoundSays (is b) l 0 x) (sym e ∙ d) (search_says (is b) l 0)).inside
