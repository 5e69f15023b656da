-- Statements whose keys count are the entries that count; a key looked up among them; and the turns of a loop over them.
use Rattle.std.specs.Prelude.{Option, None, Some, option_map, Ok, Err}
use mathlib.Core.Path.{◌≡◌, refl, sym, ap}
use mathlib.Core.Bool.{true, false}
use mathlib.Core.List.{List, [], ◌∷◌}
use Prim.Native.Nat.{ℕ, ◌+◌, ◌<◌}
use native.Mathlib.Numerals.{add-one}
use lib.ListN.{length}
use Rattle.scan.specs.Byte.{same}
use Rattle.scan.proofs.Cases.{by_test, none_some}
use Rattle.header.specs.Entries.{entries, lookup}
use Rattle.header.specs.Entry.{Entry, key}
use Rattle.header.specs.Grammar.{IsStatement}
use Rattle.header.specs.Lookup.{first_statement, entry_of}
use Rattle.header.specs.Statements.{statement_at, leading_statements, malformed}
use Rattle.header.specs.declared.Statement.{Statement}
use Rattle.header.proofs.Leading.{statement-stands, leading-one, leading_end, leading-malformed}
use Rattle.header.proofs.LookupLaws.{lookup_first, first_stands}
use Rattle.blocks.specs.Counting.{is_edf_key, counting}
use Rattle.reading.specs.Counting.{counting_statements}

-- What the statements that count say are the entries that count.
pub counting-entries : (s : List ℕ) (ts : List Statement) → counting (entries s ts) ≡ entries s (counting_statements s ts)
unfolding counting entries counting_statements
counting-entries s [] = refl
counting-entries s (t ∷ ts) =
    by_test (is_edf_key (key s t))
    (λ e. rw e (ap (λ (es : List Entry). entry_of s t ∷ es) (counting-entries s ts)))
    (λ e. rw e)

module _ (s k : List ℕ) where
  pub lookup-counting : (ts : List Statement)
      → lookup k (counting (entries s ts)) ≡ option_map (entry_of s) (first_statement s k (counting_statements s ts))
  lookup-counting ts = rw (counting-entries s ts) (lookup_first s k (counting_statements s ts))

  -- What is found among those that count is found among all,
  pub counting_first : {t : Statement} (ts : List Statement) → first_statement s k (counting_statements s ts) ≡ Some t
      → first_statement s k ts ≡ Some t
  unfolding first_statement counting_statements
  counting_first [] e = e
  counting_first (u ∷ ts) e =
      by_test (is_edf_key (key s u))
      (λ q. by_test (same (key s u) k)
      (λ p. rw p (rw (q, p) at e))
      (λ p. rw p (counting_first ts (rw (q, p) at e))))
      (λ q. absurd (none_some (rw q at e)))

  -- and is a statement.
  pub counting_stands : (t : Statement) (at : ℕ) → first_statement s k (counting_statements s (leading_statements s at)) ≡ Some t
      → IsStatement s t × (t.end < length s)
  counting_stands t at e = first_stands s k t at (counting_first (leading_statements s at) e)

-- ---- The turns of a loop

module _ (s k : List ℕ) (at : ℕ) where
  -- What is found from an offset on.
  abbrev pub counting_from : Option Statement
  counting_from = first_statement s k (counting_statements s (leading_statements s at))

  pub counting_end : statement_at s at ≡ Ok None → counting_from ≡ None
  unfolding first_statement counting_statements
  counting_end e = rw (leading_end s at e)

  pub counting_malformed : statement_at s at ≡ Err malformed → counting_from ≡ None
  unfolding first_statement counting_statements
  counting_malformed e = rw (leading-malformed s at e)

  module _ (t : Statement) (e : statement_at s at ≡ Ok (Some t)) (j : List ℕ) (is_key : j ≡ key s t) where
    pub counting_stops : is_edf_key j ≡ false → counting_from ≡ None
    unfolding first_statement counting_statements
    counting_stops q = rw (leading-one s (statement-stands s at t e), sym is_key, q)

    pub counting_hit : is_edf_key j ≡ true → same j k ≡ true → counting_from ≡ Some t
    unfolding first_statement counting_statements
    counting_hit q p = rw (leading-one s (statement-stands s at t e), sym is_key, q, sym is_key, p)

    pub counting_miss : is_edf_key j ≡ true → same j k ≡ false
        → counting_from ≡ first_statement s k (counting_statements s (leading_statements s (t.end + 1)))
    unfolding first_statement counting_statements
    counting_miss q p = rw (leading-one s (statement-stands s at t e), sym is_key, q, sym is_key, p, add-one t.end)
