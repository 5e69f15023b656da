-- `opening::run::placed` meets its contract.
use Rattle.std.proofs.Common.{Ok, sym, ap, ◌∙◌, rules}
use Rattle.scan.proofs.Exits.{exits}
use Rattle.opening.proofs.Standing.{starts, ends, fails, refused_with, twice, room, goes_on}
use Rattle.opening.proofs.run.placed.Goals as goal

pub loop-block-init : goal.loop-block-init
loop-block-init c = starts _ (search rules)

pub returns-in_err-block : goal.returns-in_err-block
returns-in_err-block c =
    refused_with _ (exits _ c.from_residual.ensures.1)
    (fails _ c.loop-block.invariant (sym c.next_block.ensures ∙ c.in_err-block.was))

pub returns-then-repeats : goal.returns-then-repeats
returns-then-repeats c =
    let found = sym c.next_block.ensures ∙ c.in_ok-block.was ∙ ap Ok c.in-Some.is in
    rw c.error_at.ensures (twice _ c.loop-block.invariant found (sym c.repeats.ensures ∙ c.if-repeats.true))

pub bounds-rows-count : goal.bounds-rows-count
bounds-rows-count c =
    room _ c.loop-block.invariant (sym c.next_block.ensures ∙ c.in_ok-block.was ∙ ap Ok c.in-Some.is)

pub loop-block-preserved : goal.loop-block-preserved
loop-block-preserved c =
    goes_on _ c.loop-block.invariant (sym c.next_block.ensures ∙ c.in_ok-block.was ∙ ap Ok c.in-Some.is)
    (sym c.repeats.ensures ∙ c.if-repeats.false)

pub returns : goal.returns
returns c = ends _ c.loop-block.invariant (sym c.next_block.ensures ∙ c.in_ok-block.was ∙ ap Ok c.in_default.is)
