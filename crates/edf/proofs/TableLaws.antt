-- A table whose first rows are those of a plan.
use Rattle.std.specs.Prelude.{Ok, Err}
use Rattle.scan.specs.Outcome.{Outcome}
use mathlib.Core.Path.{◌≡◌, refl}
use mathlib.Core.List.{List, ◌++◌}
use Prim.Native.Nat.{ℕ}
use native.Mathlib.Omega.{arith}
use lib.ListN.{length, take, drop}
use lib.Seq.{length-take-le}
use Rattle.scan.specs.declared.Error.{Error}
use Rattle.blocks.specs.Opening.{count_of, table_after}
use Rattle.blocks.specs.declared.Row.{Row}
use Rattle.opening.specs.Core.{rows_of, IsBounded}
use Rattle.opening.specs.Table.{Plans}
use Rattle.opening.specs.declared.Opened.{Opened}

module _ {o : Outcome (List Row)} {n : ℕ} {r : Outcome Opened} (h : Plans o n r) (t : List Row) where
  -- In an error the table is as it was.
  pub left_alone : {e : Error} → r ≡ Err e → (Err e ≡ count_of o) × (t ≡ table_after o t)
  unfolding table_after
  left_alone {e} a = let q : Err e ≡ o = rw a at h.says in rw (← q) (refl, refl)

  -- Else its first rows are those of the file, and the others are as they were.
  pub placed : {p : Opened} → r ≡ Ok p → {rows : List Row} → rows ≡ take p.count p.rows
      → (Ok p.count ≡ count_of o) × (rows ++ drop p.count t ≡ table_after o t)
  unfolding table_after
  placed {p} a e =
      let q : Ok (rows_of p) ≡ o = rw a at h.says in
      let b : IsBounded p = rw a at h.bounded in
      let k : length (rows_of p) ≡ p.count = length-take-le p.count p.rows (omega (arith, b.0, b.1)) in
      rw (← q, e, k) (refl, refl)
