-- `shift::element::add` meets its contract.
use Rattle.std.proofs.Common.{sym, ap, ◌∙◌, rules}
use Rattle.raster.specs.Bytes.{bytes_of}
use Rattle.shift.specs.Shifting.{shifted_bytes, shift_by}
use Rattle.shift.proofs.HighEnd.{octets_of, shifted_is}
use Rattle.shift.proofs.element.add.Goals as goal

pub returns-clause-value : goal.returns-clause-value
unfolding shifted_bytes
returns-clause-value g c =
    c.written.ensures ∙ ap (bytes_of c.args.a.asked g.row.W) (c.shifted.ensures ∙ ap (shift_by g.row.W c.args.a.shift) c.read.ensures)

pub returns-clause-high_end : goal.returns-clause-high_end
returns-clause-high_end g c some few =
    let a = c.args.a in
    returns-clause-value g c
    ∙ sym (shifted_is g.row.W a.shift a.order a.asked c.args.b some few (octets_of c.args.b (λ i. search rules)) (search rules))
