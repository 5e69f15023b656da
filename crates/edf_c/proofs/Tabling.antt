-- What the call that opens a file answers, from the plan behind it.
use Rattle.std.specs.Prelude.{Ok, Err}
use Rattle.scan.specs.Outcome.{Outcome}
use mathlib.Core.Path.{◌≡◌, refl, sym}
use mathlib.Core.List.{List}
use Prim.Native.Nat.{ℕ}
use native.Mathlib.Omega.{arith}
use lib.ListN.{length}
use lib.Seq.{length-take-le}
use Rattle.scan.specs.Buffer.{over}
use Rattle.scan.specs.declared.Error.{Error}
use Rattle.blocks.specs.Opening.{count_of}
use Rattle.blocks.specs.declared.Row.{Row}
use Rattle.opening.specs.Core.{rows_of, IsBounded}
use Rattle.opening.specs.Table.{Plans}
use Rattle.opening.specs.declared.Opened.{Opened}
use Rattle.records.specs.Table.{all_numbers, numbers_after}
use Rattle.edf_c.specs.Answers.{code_of, value_after, position_after}

-- The code r, the number w of blocks, the position q and the lent numbers are those of the outcome o.
abbrev pub OpenedAs : Outcome (List Row) → List ℕ → ℕ → ℕ → ℕ → ℕ → ℕ → List ℕ → Type 0
OpenedAs o before v p r w q after =
    (r ≡ code_of (count_of o))
    × ((w ≡ value_after (count_of o) v) × ((q ≡ position_after (count_of o) p) × (after ≡ numbers_after o before)))

module _ {o : Outcome (List Row)} {n : ℕ} {r : Outcome Opened} (h : Plans o n r) (before : List ℕ) (v p : ℕ) where
  pub opened_rows : {x : Opened} → r ≡ Ok x → {after : List ℕ} → after ≡ over (all_numbers (rows_of x)) before
      → OpenedAs o before v p 0 x.count p after
  unfolding all_numbers
  opened_rows {x} a e =
      let q : Ok (rows_of x) ≡ o = rw a at h.says in
      let b : IsBounded x = rw a at h.bounded in
      let k : length (rows_of x) ≡ x.count = length-take-le x.count x.rows (omega (arith, b.0, b.1)) in
      rw (← q, e) (refl, (sym k, (refl, refl)))

  pub not_opened : {e : Error} → r ≡ Err e → OpenedAs o before v p e.code v e.position before
  unfolding all_numbers
  not_opened a = let q = rw a at h.says in rw (← q) (refl, (refl, (refl, refl)))
