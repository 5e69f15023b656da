-- What the functions that look for a repeated key say to each other.
use Rattle.std.specs.Prelude.{◌≡◌, Bool, true, false, not, List, [], ◌∷◌, ◌++◌, map, ℕ, ltb, Option, None, Some}
use Rattle.scan.specs.Chain.{Chain}
use Rattle.header.specs.Entry.{key}
use Rattle.header.specs.Grammar.{StatementFrom}
use Rattle.header.specs.Hash.{ContainsKeys}
use Rattle.header.specs.Statements.{among}
use Rattle.header.specs.declared.Statement.{Statement}

-- The statements `ts` stand end to end from an offset up to, not including, another.
abbrev pub StatementsTo : List ℕ → ℕ → List Statement → ℕ → Type 0
StatementsTo s from ts to = Chain (StatementFrom s) (λ end. end ≡ to) from ts

-- Whether a statement was found that starts before an offset.
abbrev pub starts_before : ℕ → Option Statement → Bool
starts_before to None = false
starts_before to (Some t) = ltb t.first to

-- The key k of the statement at `to` was looked for among those of the statements from `from` up to it, with a table l that
-- contains these, and inserted into the table, which is l' now: r says whether it is one of them.
pub record KeyInserted (s : List ℕ) (from to slots : ℕ) (k l l' : List ℕ) (r : Bool) : Type 0 where
  pub repeated : (ts : List Statement) → StatementsTo s from ts to → ContainsKeys slots l (map (key s) ts)
      → r ≡ among k (map (key s) ts)
  pub contained : (ks : List (List ℕ)) → ContainsKeys slots l ks → ContainsKeys slots l' (ks ++ (k ∷ []))

-- The same for the statement t, as long as the keys before are distinct; r says whether they still are.
pub record StillDistinct (s : List ℕ) (from slots : ℕ) (t : Statement) (distinct : Bool) (l l' : List ℕ) (r : Bool) : Type 0 where
  pub skipped : distinct ≡ false → r ≡ false
  pub inserted : distinct ≡ true → KeyInserted s from t.first slots (key s t) l l' (not r)
