-- Which blocks are files of their own.
use Rattle.std.specs.Prelude.{None, Some, slice_get}
use mathlib.Core.Path.{◌≡◌, sym}
use mathlib.Core.List.{List}
use Prim.Native.Nat.{ℕ}
use Rattle.header.specs.Entry.{Entry}
use Rattle.header.specs.declared.Header.{Header}
use Rattle.header.specs.declared.Statement.{Statement}
use Rattle.blocks.specs.Grammar.{Declares, HasHeader, IsBlock}
use Rattle.blocks.specs.Places.{kind_1, kind_2, StartsWithEdfKey}
use Rattle.blocks.specs.declared.Row.{Row}
use Rattle.blocks.proofs.Unambiguous.{block_of_lem}
use Rattle.locality.specs.Blocks.{AcceptedFile, general_header, OfKind, AloneBlock}
use Rattle.locality.proofs.BlockUp.{partition_alone}
use Rattle.locality.proofs.KindLaws.{kind_2_rules, rules_general, row_kind, declares_data, declares_plain}
use Rattle.locality.proofs.Rows.{member_at}

-- In a file without a general header,
module _ {s : List ℕ} {rows : List Row} (file : AcceptedFile s rows) (no_general : general_header s rows ≡ None) (k : ℕ) {row : Row}
    (at : slice_get rows k ≡ Some row) where
  in_file : (start : ℕ) × (next : ℕ) × IsBlock s file.partition.rules start row next
  in_file = block_of_lem file.partition (member_at rows k at)

  alone_by : Declares in_file.2.entries file.partition.rules → AloneBlock s k row
  alone_by d =
      let g = rules_general file.partition no_general in
      record {
        rows = rows;
        file = file;
        at = at;
        no_general = no_general;
        alone = partition_alone in_file.2 (row_kind file.partition g (member_at rows k at)) g d;
      }

  -- every block of a file of kind 2,
  pub kind_2_alone : OfKind kind_2 s → AloneBlock s k row
  kind_2_alone o =
      let f = file.partition.first_header in
      alone_by (declares_data (rules_general file.partition no_general) (kind_2_rules o f) f.declares in_file.2.rules.role)

  -- and, of a file of kind 1, each whose header does not start with an EDF_ key.
  pub kind_1_alone : OfKind kind_1 s
      → ((h : Header) (ts : List Statement) (es : List Entry) → HasHeader s row.start h ts es → StartsWithEdfKey es → ⊥) → AloneBlock s k row
  kind_1_alone o n =
      let b = in_file.2 in
      alone_by (declares_plain o file.partition.first_header (n b.header b.statements b.entries (rw (sym b.starts) at b.stands)))
