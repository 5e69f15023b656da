-- Looking a key up in a list of statements.
use Rattle.std.specs.Prelude.{cond, List, [], ◌∷◌, ℕ, Option, None, Some}
use Rattle.scan.specs.Byte.{same}
use Rattle.header.specs.Entries.{value, span}
use Rattle.header.specs.Entry.{Entry, key}
use Rattle.header.specs.declared.Statement.{Statement}

-- The first statement whose key is k.
unfoldable pub first_statement : List ℕ → List ℕ → List Statement → Option Statement
first_statement s k [] = None
first_statement s k (t ∷ ts) = let r = first_statement s k ts in cond (same (key s t) k) (Some t) r

-- What a statement says.
abbrev pub entry_of : List ℕ → Statement → Entry
entry_of s t = record { key = key s t; value = value s t; span = span s t }
