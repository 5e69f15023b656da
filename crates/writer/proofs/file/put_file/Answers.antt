-- `writer::file::put_file` meets its contract.
use mathlib.Core.Path.{ap}
use native.Mathlib.Omega.{arith}
use borrow.Author.Rules.{rules}
use lib.ListN.{length, length-append}
use Rattle.append.proofs.Appending.{within_then, within_front, appended_front}
use Rattle.frame.specs.File.{file_data}
use Rattle.writer.specs.Front.{titled, closed}
use Rattle.writer.proofs.file.put_file.Goals as goal

pub put_header-requires-clause-room : goal.put_header-requires-clause-room
put_header-requires-clause-room c =
    omega (arith, length-append (closed (titled c.args.first.now c.args.title.now)) (file_data c.args.f c.args.pixels.now), c.requires.room, c.new-file.ensures.value.1, ap length c.new-file.ensures.value.0)

pub put_data-requires-clause-room : goal.put_data-requires-clause-room
put_data-requires-clause-room c =
    omega (arith, length-append (closed (titled c.args.first.now c.args.title.now)) (file_data c.args.f c.args.pixels.now), c.requires.room, c.new-file.ensures.value.1, ap length c.new-file.ensures.value.0, c.put_header.ensures.upper_bound, c.put_header.ensures.same_length)

pub returns : goal.returns
returns c =
    appended_front (within_front c.new-file.ensures.value.0 c.new-file.ensures.value.1 (search rules) (within_then c.put_header.ensures c.put_data.ensures))
