-- `columns::described::dims_column` meets its contract. The invariant: the first dimensions after Dim_1 are appended.
use Prim.Native.Nat.{◌*◌}
use lib.ListN.{take}
use Rattle.std.specs.Prelude.{map}
use Rattle.append.specs.Append.{AppendedWithin}
use Rattle.columns.specs.Columns.{number, after}
use Rattle.columns.specs.Most.{number_column}
use Rattle.columns.proofs.described.dims_column.Given as goal

abbrev pub invariant-loop-dim : goal.invariant-loop-dim
invariant-loop-dim l =
    AppendedWithin (number_column * l.dim-index) (after 120 (map number (take l.dim-index l.dim-items))) l.initial.out l.out
