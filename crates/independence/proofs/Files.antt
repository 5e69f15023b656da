-- Blocks that two files share: those of two concatenated files, and a block that is a file of its own.
use Rattle.std.specs.Prelude.{None, Some, slice_get}
use mathlib.Core.Path.{◌≡◌, refl, sym, ap, ◌∙◌}
use mathlib.Core.List.{List, [], ◌∷◌, ◌++◌, map}
use Prim.Native.Nat.{ℕ, ◌+◌, ◌≤◌}
use native.Mathlib.Omega.{arith}
use lib.ListN.{length, take, drop, length-take, length-drop}
use lib.Seq.{take-take, take-append-le, drop-append-le}
use Rattle.blocks.specs.declared.Row.{Row}
use Rattle.blocks.proofs.Unambiguous.{row_inside}
use Rattle.locality.specs.Blocks.{block_bytes, general_header, Joinable, joined_rows, AloneBlock}
use Rattle.locality.specs.Moved.{starting_at, moved_row}
use Rattle.locality.proofs.Joined.{files_joined, joined_general}
use Rattle.locality.proofs.KindLaws.{plain_general, rules_general, row_kind}
use Rattle.locality.proofs.Rows.{member_at, front_at, back_at, map_at}
use Rattle.locality.proofs.Searches.{bytes_shift}
use Rattle.keyword.specs.Shared.{SameBlock, MovedPlainBlock}

-- ---- Two concatenated files

module _ (s t : List ℕ) {rows others : List Row} (j : Joinable s t rows others) where
  no_general : general_header (s ++ t) (joined_rows (length s) rows others) ≡ None
  no_general = joined_general s t j.first_kind j.second_kind j.first.partition j.second.partition j.few

  -- A block of the first,
  pub first_shared : (k : ℕ) {row : Row} → slice_get rows k ≡ Some row → SameBlock s (s ++ t) k k
  first_shared k {row} e =
      let n = row.header + row.size in
      let inside : row.start + row.header + row.size ≤ length s = row_inside j.first.partition (member_at rows k e) in (
        row,
        record {
          rows = rows;
          others = joined_rows (length s) rows others;
          file = j.first;
          other_file = files_joined s t j;
          at = e;
          other_at = front_at rows (map (moved_row (length s)) others) k e;
          bytes =
              sym (ap (take n) (drop-append-le row.start s t (omega arith))
              ∙ take-append-le n (drop row.start s) t (omega (arith, length-drop row.start s)));
          general = plain_general j.first_kind j.first.partition ∙ sym no_general;
        },
      )

  -- and one of the second.
  pub second_shared : (k : ℕ) {row : Row} → slice_get others k ≡ Some row → MovedPlainBlock (length s) t (s ++ t) k (length rows + k)
  second_shared k {row} e = (
    row,
    record {
      rows = others;
      others = joined_rows (length s) rows others;
      file = j.second;
      other_file = files_joined s t j;
      at = e;
      other_at = back_at rows (map (moved_row (length s)) others) k (map_at (moved_row (length s)) others k e);
      bytes = sym (bytes_shift s t (record { offset = row.start; length = row.header + row.size }));
      general = second-general ∙ sym no_general;
    },
    second-general,
  )
    where
      second-general : general_header t others ≡ None
      second-general = plain_general j.second_kind j.second.partition

-- ---- A block as a file of its own

pub bytes_small : (s : List ℕ) (row : Row) → length (block_bytes s row) ≤ length s
bytes_small s row = omega (arith, length-take (row.header + row.size) (drop row.start s), length-drop row.start s)

module _ {s : List ℕ} {k : ℕ} {row : Row} (a : AloneBlock s k row) where
  alone_kind : row.kind ≡ 1
  alone_kind = row_kind a.file.partition (rules_general a.file.partition a.no_general) (member_at a.rows k a.at)

  alone_row : moved_row row.start (starting_at 0 row) ≡ row
  alone_row = let z : row.start + 0 ≡ row.start = omega arith in ap (λ (k : ℕ). starting_at k row) z

  pub alone_shared : MovedPlainBlock row.start (block_bytes s row) s 0 k
  alone_shared =
      let n = row.header + row.size in (
        starting_at 0 row,
        record {
          rows = starting_at 0 row ∷ [];
          others = a.rows;
          file = record { small = omega (arith, bytes_small s row, a.file.small); partition = a.alone };
          other_file = a.file;
          at = refl;
          other_at = a.at ∙ ap Some (sym alone_row);
          bytes = take-take n n (drop row.start s) (omega arith) ∙ ap (block_bytes s) (sym alone_row);
          general = alone-general ∙ sym a.no_general;
        },
        alone-general,
      )
    where
      alone-general : general_header (block_bytes s row) (starting_at 0 row ∷ []) ≡ None
      alone-general = rw alone_kind
