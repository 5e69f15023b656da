-- The lines of the first blocks, one after another.
use mathlib.Core.Path.{◌≡◌, sym, ap, ◌∙◌}
use mathlib.Core.List.{List, [], ◌∷◌, ◌++◌, append_assoc, append-nil}
use Prim.Native.Nat.{ℕ, zero, suc, ◌+◌, ◌<◌}
use native.Mathlib.Omega.{arith}
use lib.ListN.{length, take, get_or}
use Rattle.blocks.specs.declared.Row.{Row}
use Rattle.listing.specs.Listing.{block_line, block_lines}

module _ (s : List ℕ) where
  -- The line of the next block.
  lines_suc : (j k i : ℕ) (rows : List Row) (z : Row) → i < length rows → j ≡ k + i
      → block_lines s k (take i rows) ++ block_line s j (get_or rows i z) ≡ block_lines s k (take (suc i) rows)
  unfolding block_lines
  lines_suc j k i [] z h e = absurd (omega (arith, h))
  lines_suc j k zero (row ∷ rows) z h e = let same : j ≡ k = omega (arith, e) in rw same (sym (append-nil (block_line s k row)))
  lines_suc j k (suc i) (row ∷ rows) z h e =
      append_assoc (block_line s k row) (block_lines s (suc k) (take i rows)) (block_line s j (get_or rows i z))
      ∙ ap (λ (l : List ℕ). block_line s k row ++ l) (lines_suc j (suc k) i rows z (omega (arith, h)) (omega (arith, e)))

  pub lines_more : (i : ℕ) (rows : List Row) (z : Row) → i < length rows
      → block_lines s 0 (take i rows) ++ block_line s i (get_or rows i z) ≡ block_lines s 0 (take (i + 1) rows)
  lines_more i rows z h = let e : i + 1 ≡ suc i = omega arith in rw e (lines_suc i 0 i rows z h (omega arith))
