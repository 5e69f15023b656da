-- `judging::lengths::header_size` meets its contract.
use Rattle.std.proofs.Common.{refl, sym, ap, ◌∙◌}
use Rattle.blocks.specs.Counting.{counting_in}
use Rattle.header.specs.Entries.{value_in}
use Rattle.reading.specs.Entries.{entries_from}
use Rattle.reading.proofs.SizeLaws.{said_absent, said_value}
use Rattle.reading.proofs.SoughtLaws.{folded}
use Rattle.judging.proofs.lengths.header_size.Goals as goal

pub returns-in-None : goal.returns-in-None
returns-in-None c =
    said_absent _ (ap (λ k. value_in k (counting_in c.args.kind (entries_from c.args.s.now c.args.from))) (sym folded.header_size)
    ∙ sym c.in-None.ensures)

pub returns-in-Some : goal.returns-in-Some
returns-in-Some c =
    said_value _ (ap (λ k. value_in k (counting_in c.args.kind (entries_from c.args.s.now c.args.from))) (sym folded.header_size)
    ∙ sym c.in-Some.ensures) _ refl c.size_said.ensures
