-- What the statements of a body say, by the statement at its first byte and by what a search finds.
use Rattle.std.specs.Prelude.{Option, option_map, Ok, Err, Some, None}
use Rattle.std.specs.Result.{result_ok}
use mathlib.Core.Path.{◌≡◌, refl, sym}
use mathlib.Core.List.{List, [], ◌∷◌}
use Prim.Native.Nat.{ℕ, ◌+◌}
use native.Mathlib.Numerals.{add-one}
use Rattle.scan.proofs.Cases.{by_option, none_some}
use Rattle.header.specs.Entries.{value, entries, value_in}
use Rattle.header.specs.Lookup.{first_statement, entry_of}
use Rattle.header.specs.Statements.{Next, statement_at, malformed}
use Rattle.header.specs.declared.Statement.{Statement}
use Rattle.header.proofs.Leading.{statement-stands, leading-one, leading_end, leading-malformed}
use Rattle.header.proofs.LookupLaws.{lookup_first}
use Rattle.reading.specs.Entries.{entries_from}

-- What stood, by its `ok()`.
pub stood : (n : Next) {o : Option Statement} → Some o ≡ result_ok n → n ≡ Ok o
stood (Ok o) e = cc
stood (Err m) e = absurd (none_some (sym e))

pub stood_malformed : (n : Next) → None ≡ result_ok n → n ≡ Err malformed
stood_malformed (Ok o) e = absurd (none_some e)
stood_malformed (Err m) e = refl

module _ (s : List ℕ) (at : ℕ) where
  -- The statement at the first byte says the first entry, and what follows it the others.
  pub entries_one : {t : Statement} → statement_at s at ≡ Ok (Some t) → entries_from s at ≡ entry_of s t ∷ entries_from s (t.end + 1)
  unfolding entries
  entries_one {t} e = rw (add-one t.end, leading-one s (statement-stands s at t e))

  pub entries_end : statement_at s at ≡ Ok None → entries_from s at ≡ []
  unfolding entries
  entries_end e = rw (leading_end s at e)

  pub entries_malformed : statement_at s at ≡ Err malformed → entries_from s at ≡ []
  unfolding entries
  entries_malformed e = rw (leading-malformed s at e)

-- The value of a key is that of the first statement with the key.
pub value_found_lem : (s k : List ℕ) (ts : List Statement) → value_in k (entries s ts) ≡ option_map (value s) (first_statement s k ts)
value_found_lem s k ts =
    by_option (first_statement s k ts) (λ n. rw (lookup_first s k ts, n)) (λ t e. rw (lookup_first s k ts, e))
