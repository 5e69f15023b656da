use Rattle.std.proofs.Common.{refl, arith}
use Rattle.header.proofs.HashLaws.{probed_more, insert_zero, insert_there, insert-full, insert-new, at_entry}
use Rattle.header.proofs.repeat.insert.Goals as goal

pub returns-then-h-eq0 : goal.returns-then-h-eq0
returns-then-h-eq0 c = insert_zero _ _ _ c.if-h-eq0.true

pub loop-i-init : goal.loop-i-init
loop-i-init c = record { same = refl; probed = λ k a b. absurd (omega arith) }

pub returns-then-table-i-eq0 : goal.returns-then-table-i-eq0
returns-then-table-i-eq0 c =
    at_entry c.loop-i.invariant.same
    (insert-new _ _ _ _ c.loop-i.auto.i c.loop-i.invariant.probed (omega arith) c.if-table-i-eq0.true c.if-h-eq0.false)

pub returns-then-table-i : goal.returns-then-table-i
returns-then-table-i c =
    at_entry c.loop-i.invariant.same
    (insert_there _ _ _ _ c.loop-i.auto.i c.loop-i.invariant.probed c.if-table-i.true)

pub loop-i-preserved : goal.loop-i-preserved
loop-i-preserved c = record {
  same = c.loop-i.invariant.same;
  probed = probed_more c.loop-i.table _ _ _ c.loop-i.invariant.probed c.if-table-i-eq0.false c.if-table-i.false;
}

pub returns : goal.returns
returns c =
    at_entry c.loop-i.invariant.same
    (insert-full _ _ _ _ c.loop-i.auto.i c.loop-i.invariant.probed (omega arith))
