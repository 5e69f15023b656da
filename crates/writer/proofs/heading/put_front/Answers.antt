-- `writer::heading::put_front` meets its contract.
use Rattle.append.proofs.Appending.{within_then, within_is}
use Rattle.writer.proofs.HeaderLaws.{front_is}
use Rattle.writer.proofs.heading.put_front.Goals as goal

pub returns : goal.returns
returns c =
    within_is (front_is c.args.f c.args.size) (within_then (within_then c.append.ensures c.put_leading.ensures) c.append-2.ensures)
