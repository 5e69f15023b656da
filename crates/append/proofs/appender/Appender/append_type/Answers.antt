-- `append::appender::Appender::append_type` meets its contract.
use mathlib.Core.Path.{ap}
use native.Mathlib.Omega.{arith}
use lib.ListN.{length}
use Rattle.append.proofs.Appending.{within_is, within_more}
use Rattle.append.proofs.WordLaws.{type_word_short}
use Rattle.append.proofs.appender.Appender.append_type.Goals as goal

pub append-requires : goal.append-requires
append-requires c = omega (arith, ap length c.type_word.ensures, type_word_short c.args.datatype c.requires.le_datatype)

pub returns : goal.returns
returns c =
    let same = c.type_word.ensures in
    within_is same (within_more (omega (arith, ap length same, type_word_short c.args.datatype c.requires.le_datatype)) c.append.ensures)
