-- The key of a statement.
use Rattle.std.specs.Prelude.{cond, List, [], ◌∷◌, map, ℕ}
use Rattle.text.specs.Fold.{fold}
use Rattle.text.specs.Whitespace.{whitespace}

-- The bytes that are no whitespace.
unfoldable pub strip : List ℕ → List ℕ
strip [] = []
strip (b ∷ bs) = let r = strip bs in cond (whitespace b) r (b ∷ r)

-- "A key loses all its white, also inside, and is folded to small letters".
unfoldable pub key_of : List ℕ → List ℕ
unfolding strip fold
key_of l = map fold (strip l)
