-- Rows as numbers, laid over the lent numbers row by row.
use mathlib.Core.Path.{◌≡◌, refl, sym, ap, ◌∙◌}
use mathlib.Core.List.{List, [], ◌∷◌, ◌++◌}
use Prim.Native.Nat.{ℕ, zero, suc, ◌+◌, ◌*◌, ◌≤◌}
use native.Mathlib.Omega.{arith}
use lib.ListN.{length, get_or, take}
use lib.Seq.{take-suc, take-length}
use Rattle.scan.specs.Buffer.{over}
use Rattle.raster.specs.Bytes.{joined}
use Rattle.raster.specs.Strided.{patched}
use Rattle.strides.proofs.Filling.{piece_more}
use Rattle.blocks.specs.declared.Row.{Row}
use Rattle.opening.proofs.TableLaws.{no_row}
use Rattle.records.specs.Numbers.{row_numbers}
use Rattle.records.specs.Table.{all_numbers}

all_append : (a b : List Row) → all_numbers (a ++ b) ≡ all_numbers a ++ all_numbers b
unfolding all_numbers
all_append [] b = refl
all_append (r ∷ a) b = ap (λ (l : List ℕ). row_numbers r ++ l) (all_append a b)

-- The numbers of row i.
abbrev pub piece : List Row → ℕ → List ℕ
piece rows i = row_numbers (get_or rows i no_row)

-- The numbers of the first n rows.
joined_rows_lem : (rows : List Row) (n : ℕ) → n ≤ length rows → joined n (piece rows) ≡ all_numbers (take n rows)
unfolding joined all_numbers
joined_rows_lem rows zero h = refl
joined_rows_lem rows (suc n) h =
    ap (λ (l : List ℕ). l ++ piece rows n) (joined_rows_lem rows n (omega arith))
    ∙ sym (ap all_numbers (take-suc rows n no_row h) ∙ all_append (take n rows) (get_or rows n no_row ∷ []))

-- The first i rows are laid over the lent numbers d.
pub laid_none : (rows : List Row) (d : List ℕ) → d ≡ over (joined 0 (piece rows)) d
unfolding joined
laid_none rows d = refl

pub laid_more : (rows : List Row) (d : List ℕ) (i : ℕ) (l q : List ℕ) → l ≡ over (joined i (piece rows)) d → q ≡ piece rows i
    → patched (7 * i) 7 l q ≡ over (joined (i + 1) (piece rows)) d
laid_more rows d i l q e f = piece_more (piece rows) 7 (i + 1) d (λ j h. refl) i (7 * i) 7 l q (omega arith) e refl refl f

pub laid_all : (rows : List Row) (d : List ℕ) (i : ℕ) (l : List ℕ) → i ≡ length rows → l ≡ over (joined i (piece rows)) d
    → l ≡ over (all_numbers rows) d
laid_all rows d i l q e =
    e ∙ ap (λ (k : ℕ). over (joined k (piece rows)) d) q
    ∙ ap (λ (w : List ℕ). over w d) (joined_rows_lem rows (length rows) (omega arith) ∙ ap all_numbers (take-length rows))
