-- `listing::list::block_lines` meets its contract.
use Prim.Native.Nat.{◌*◌}
use lib.ListN.{take}
use Rattle.append.specs.Append.{AppendedWithin}
use Rattle.listing.specs.Limits.{block_line_most}
use Rattle.listing.specs.Listing.{block_lines}
use Rattle.listing.proofs.list.block_lines.Given as goal

abbrev pub invariant-loop-number : goal.invariant-loop-number
invariant-loop-number l =
    AppendedWithin (block_line_most * l.number) (block_lines l.file 0 (take l.number l.rows)) l.initial.out l.out
