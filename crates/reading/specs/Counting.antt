-- The statements whose keys count, if they are EDF_ keys: those before the first key that is none.
use Rattle.std.specs.Prelude.{cond, List, [], ◌∷◌, ℕ}
use Rattle.header.specs.Entry.{key}
use Rattle.header.specs.declared.Statement.{Statement}
use Rattle.blocks.specs.Counting.{is_edf_key}

unfoldable pub counting_statements : List ℕ → List Statement → List Statement
counting_statements s [] = []
counting_statements s (t ∷ ts) = let r = counting_statements s ts in cond (is_edf_key (key s t)) (t ∷ r) []
