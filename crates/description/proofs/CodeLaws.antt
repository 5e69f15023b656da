-- The code of a word, by its place in the table.
use Rattle.std.specs.Prelude.{option_map}
use Rattle.std.specs.Borrow.{Bor}
use Rattle.std.specs.List.{position, position_from}
use Rattle.std.proofs.lemmas.Iterator.Adapters.{position_from-zero}
use mathlib.Core.Path.{◌≡◌, refl, ap, ◌∙◌}
use mathlib.Core.Bool.{Bool}
use mathlib.Core.List.{List, [], ◌∷◌}
use Prim.Native.Nat.{ℕ, suc}
use native.Mathlib.Numerals.{add-one}
use Rattle.scan.specs.Byte.{same}
use Rattle.scan.proofs.Cases.{by_test}
use Rattle.raster.specs.Types.{code_from, code_of}
use Rattle.description.specs.Answers.{contents}

abbrev pub is_word : List ℕ → Bor (List ℕ) → Bool
is_word v word = same v word.now

code_from_place : (words : List (Bor (List ℕ))) (v : List ℕ) (i : ℕ)
    → option_map suc (position_from (is_word v) i words) ≡ code_from (suc i) (contents words) v
unfolding code_from
code_from_place [] v i = refl
code_from_place (w ∷ words) v i =
    by_test (same v w.now) (λ e. rw e refl) (λ e. rw (e, add-one i) (code_from_place words v (suc i)))

-- The code is the place and 1.
pub code_by_place : (words : List (Bor (List ℕ))) (v : List ℕ) → option_map suc (position (is_word v) words) ≡ code_of (contents words) v
unfolding code_of
code_by_place words v = ap (option_map suc) (position_from-zero (is_word v) words) ∙ code_from_place words v 0
