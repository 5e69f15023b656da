-- The cases of a plan for a lent table.
use Rattle.std.specs.Prelude.{Ok, Err, ℕ}
use Rattle.scan.specs.Outcome.{Outcome, refused}
use mathlib.Core.Path.{◌≡◌, sym, ◌∙◌}
use mathlib.Core.Bool.{false, true}
use mathlib.Core.List.{List}
use Prim.Native.Nat.{ℕ, ◌≤◌, ◌<◌}
use native.Mathlib.Omega.{arith}
use borrow.Author.Tests.{le-leb, lt-leb}
use lib.Dec.{leb}
use lib.IntN.{pos}
use lib.ListN.{length}
use Rattle.scan.specs.declared.Error.{Error}
use Rattle.blocks.specs.Limits.{file_limit, block_limit}
use Rattle.blocks.specs.Opening.{opened, opened_into}
use Rattle.blocks.specs.declared.Row.{Row}
use Rattle.opening.specs.Core.{Opens}
use Rattle.opening.specs.Table.{Plans}
use Rattle.opening.specs.declared.Opened.{Opened}

-- A row of zeros: what stands past the end of a list.
abbrev pub no_row : Row
no_row = record { start = 0; header = 0; size = 0; kind = 0; sequence = pos 0; instance = 0; memory = pos 0 }

-- ---- 1, then 2, then the blocks

module _ (s : List ℕ) (n : ℕ) where
  pub over_limit : leb (length s) file_limit ≡ false → opened_into n s ≡ refused 1 0
  unfolding opened_into
  over_limit h = rw h

  pub few_rows : leb (length s) file_limit ≡ true → n < block_limit → opened_into n s ≡ refused 2 0
  unfolding opened_into
  few_rows h l = rw (h, lt-leb block_limit n l)

  pub as_opened : leb (length s) file_limit ≡ true → block_limit ≤ n → opened_into n s ≡ opened s
  unfolding opened_into
  as_opened h l = rw (h, le-leb block_limit n l)

-- ---- What goes into the table

pub plans_error : {o : Outcome (List Row)} (n : ℕ) {e : Error} → o ≡ Err e → Plans o n (Err e)
plans_error n q = record { says = sym q; bounded = tt; fits = tt }

pub plans_opened : {s : List ℕ} (n : ℕ) (r : Outcome Opened) → Opens s r → block_limit ≤ n → {o : Outcome (List Row)} → opened s ≡ o → Plans o n r
plans_opened n (Ok p) h room e = record { says = h.says ∙ e; bounded = h.bounded; fits = omega (arith, h.bounded.0) }
plans_opened n (Err x) h room e = record { says = h.says ∙ e; bounded = tt; fits = tt }
