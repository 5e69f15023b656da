-- A keyword read as a real number: by what is found, and by the grammar.
use Rattle.std.specs.Prelude.{Some, Ok, Err, slice_get}
use Rattle.scan.specs.Outcome.{Outcome, refused, ◌>>=◌}
use mathlib.Core.Path.{◌≡◌, sym, ◌∙◌}
use mathlib.Core.List.{List}
use mathlib.Core.Logic.{◌↔◌}
use Prim.Native.Nat.{ℕ, ◌≤◌}
use lib.ListN.{length}
use Rattle.scan.specs.declared.Error.{Error}
use Rattle.scan.proofs.Cases.{by_outcome}
use Rattle.header.specs.Entry.{Entry}
use Rattle.blocks.specs.Grammar.{Partition}
use Rattle.blocks.specs.Limits.{file_limit}
use Rattle.blocks.specs.declared.Row.{Row}
use Rattle.keyword.specs.Keyword.{entry_of, value_found}
use Rattle.reals.specs.Form.{IsNumeral, IsReal, IsOutOfBounds}
use Rattle.reals.specs.Numeral.{Numeral}
use Rattle.reals.specs.Real.{real_of}
use Rattle.reals.specs.declared.Real.{Real}
use Rattle.reals.proofs.Main.{reads, refuses_form, refuses_bounds}
use Rattle.fields.specs.Keyword.{HasKeyword}
use Rattle.fields.proofs.KeywordLaws.{keyword-found}
use Rattle.quantities.specs.Real.{real_in}

-- ---- By what is found

module _ (s : List ℕ) (b : ℕ) (sought : List ℕ) where
  pub real_by : real_in s b sought ≡ (value_found s b sought >>= real_of)
  unfolding real_in value_found
  real_by = by_outcome (entry_of s b sought) (λ x q. rw q) (λ x q. rw q)

  pub real_unread : {x : Error} → Err x ≡ value_found s b sought → Err x ≡ real_in s b sought
  real_unread e = rw (real_by, sym e)

  pub real_read : {v : List ℕ} → Ok v ≡ value_found s b sought → (l : List ℕ) → l ≡ v → real_of l ≡ real_in s b sought
  real_read e l same = rw (real_by, sym e, sym same)

  pub no_real : {x : Error} → entry_of s b sought ≡ Err x → real_in s b sought ≡ Err x
  unfolding real_in
  no_real e = rw e

-- ---- By the grammar: a block of a file with a partition, which has the keyword

module _ {s : List ℕ} {rows : List Row} (small : length s ≤ file_limit) (p : Partition s rows) (b : ℕ) {row : Row}
    (at : slice_get rows b ≡ Some row) (sought : List ℕ) {e : Entry} (has : HasKeyword s rows row sought e) where
  entry_by : real_in s b sought ≡ real_of e.value
  unfolding real_in
  entry_by = rw ((keyword-found small p b at sought).1 has)

  -- The answer is a fact of the value alone.
  same_outcome : {o : Outcome Real} {P : Type 0} → (real_of e.value ≡ o) ↔ P → (real_in s b sought ≡ o) ↔ P
  same_outcome h = (λ q. h.0 (sym entry_by ∙ q), λ x. entry_by ∙ h.1 x)

  pub real_is : {r : Real} → (real_in s b sought ≡ Ok r) ↔ IsReal e.value r
  real_is = same_outcome (reads e.value)

  pub real_formless : (real_in s b sought ≡ refused 18 0) ↔ ((x : Numeral) → IsNumeral e.value x → ⊥)
  real_formless = same_outcome (refuses_form e.value)

  pub real_outside : (real_in s b sought ≡ refused 27 0) ↔ IsOutOfBounds e.value
  real_outside = same_outcome (refuses_bounds e.value)
