-- `records::table::put_rows` meets its contract. The invariant: the first rows are written.
use mathlib.Core.Path.{◌≡◌}
use Rattle.scan.specs.Buffer.{over}
use Rattle.raster.specs.Bytes.{joined}
use Rattle.records.proofs.Tabling.{piece}
use Rattle.records.proofs.table.put_rows.Given as goal

abbrev pub invariant-loop-i : goal.invariant-loop-i
invariant-loop-i l = l.numbers ≡ over (joined l.i (piece l.rows)) l.initial.numbers
