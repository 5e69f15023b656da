use Rattle.std.proofs.Common.{sym, ◌∙◌, ◌+◌, arith}
use Rattle.header.proofs.BodySearch.{search_past}
use Rattle.header.proofs.search.find_by_blocks.Goals as goal

pub loop-i-preserved : goal.loop-i-preserved
loop-i-preserved g c = λ p h.
    c.loop-i.invariant p h
    ∙ search_past p c.args.s.now c.loop-i.i (c.loop-i.i + 64) (omega arith) (omega arith)
    (sym (c.none_passes.ensures p h) ∙ c.if-none_passes.true)
