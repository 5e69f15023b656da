-- Lines, piece by piece.
use Rattle.std.specs.Prelude.{Err}
use Rattle.scan.specs.Outcome.{Outcome}
use mathlib.Core.Path.{◌≡◌, refl, sym}
use mathlib.Core.List.{List, [], ◌∷◌, ◌++◌, append_assoc, append-nil}
use Prim.Native.Nat.{ℕ}
use borrow.Author.Tests.{eq-eqb, ne_eqb}
use Rattle.scan.specs.Byte.{ascii}
use Rattle.scan.specs.declared.Error.{Error}
use Rattle.blocks.specs.declared.Row.{Row}
use Rattle.description.specs.Describe.{description_of}
use Rattle.description.specs.declared.Description.{Description}
use Rattle.columns.specs.Columns.{number, after, identity_of, error_columns}
use Rattle.columns.proofs.ColumnLaws.{after_both}
use Rattle.listing.specs.Listing.{line, description_columns, details, row_columns, block_line, refused_line, count_line}

-- ---- What follows the identity of a block

pub refused_is : (e : Error) → ascii " refused" ++ after 32 (error_columns e) ≡ after 32 (description_columns (Err e))
unfolding after description_columns
refused_is e = refl

module _ (row : Row) where
  pub details_are : (row.kind ≡ 0 → ⊥) → (o : Outcome Description) → after 32 (description_columns o) ≡ after 32 (details row o)
  unfolding details
  details_are k o = rw (ne_eqb row.kind 0 k)

  -- "nothing after `general`"
  pub no_details : row.kind ≡ 0 → (o : Outcome Description) → [] ≡ after 32 (details row o)
  unfolding details after
  no_details e o = rw (eq-eqb row.kind 0 e)

  pub row_is : (n : List ℕ)
      → (((n ++ (32 ∷ number row.start)) ++ (32 ∷ number row.header)) ++ (32 ∷ number row.size)) ++ (32 ∷ identity_of row)
      ≡ n ++ after 32 (row_columns row)
  unfolding row_columns after
  row_is n = simp (append_assoc, append-nil)

-- ---- Lines

pub line_is : (first : List ℕ) (xs ys : List (List ℕ)) → ((first ++ after 32 xs) ++ after 32 ys) ++ ascii "\n" ≡ line first (xs ++ ys)
unfolding line
line_is first xs ys = rw (append_assoc first (after 32 xs) (after 32 ys), after_both 32 xs ys, append_assoc first (after 32 (xs ++ ys)) (ascii "\n"))

pub block_line_is : (s : List ℕ) (k : ℕ) (row : Row) {o : Outcome Description} → o ≡ description_of s k
    → ((number k ++ after 32 (row_columns row)) ++ after 32 (details row o)) ++ ascii "\n" ≡ block_line s k row
unfolding block_line
block_line_is s k row {o} e = rw (sym e) (line_is (number k) (row_columns row) (details row o))

pub refused-line_is : (e : Error) → (ascii "refused" ++ after 32 (error_columns e)) ++ ascii "\n" ≡ refused_line e
unfolding refused_line line
refused-line_is e = append_assoc (ascii "refused") (after 32 (error_columns e)) (ascii "\n")

pub count_line_is : (n : ℕ) → (ascii "blocks" ++ (32 ∷ number n)) ++ ascii "\n" ≡ count_line n
unfolding count_line line after
count_line_is n = simp append_assoc
