-- `writer::file::data_length` meets its contract.
use native.Mathlib.Omega.{arith}
use lib.ListN.{length}
use Rattle.rendering.proofs.Padding.{padding_small}
use Rattle.writer.proofs.file.data_length.Goals as goal

pub overflow_add-result : goal.overflow_add-result
overflow_add-result c = omega (arith, c.filling.ensures, padding_small (length c.args.pixels.now))
