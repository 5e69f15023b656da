use Rattle.std.proofs.Common.{sym, ◌∙◌, rules}
use Rattle.header.proofs.WalkSteps.{ended}
use Rattle.gaps.proofs.KindLaws.{well_end, well_step, well_broken}
use Rattle.gaps.proofs.kind.is_well_formed.Goals as goal

pub returns-then-is_err : goal.returns-then-is_err
returns-then-is_err c =
    sym (c.loop-next.invariant.formed
    ∙ well_broken c.loop-next.invariant.bytes c.in-Some.next c.in-Some.ensures.steps (search rules))

pub loop-next-preserved : goal.loop-next-preserved
loop-next-preserved c =
    let w = well_step c.loop-next.invariant.bytes c.in-Some.next c.in-Some.ensures.steps (search rules) in
    record { bytes = w.0; formed = c.loop-next.invariant.formed ∙ w.1 }

pub returns : goal.returns
returns c =
    sym (c.loop-next.invariant.formed ∙ well_end _ _ (ended c.loop-next.invariant.bytes c.in-None.ensures.steps))
