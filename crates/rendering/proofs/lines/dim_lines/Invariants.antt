-- `rendering::lines::dim_lines` meets its contract. The invariant: the lines of the first dimensions are appended.
use Prim.Native.Nat.{◌*◌}
use lib.ListN.{take}
use Rattle.append.specs.Append.{AppendedWithin}
use Rattle.rendering.specs.Most.{number_line_most}
use Rattle.rendering.specs.Render.{dim_keywords, lines}
use Rattle.rendering.proofs.lines.dim_lines.Given as goal

abbrev pub invariant-loop-i : goal.invariant-loop-i
invariant-loop-i l =
    AppendedWithin (number_line_most 5 * l.i) (lines (dim_keywords 1 (take l.i l.dims))) l.initial.out l.out
