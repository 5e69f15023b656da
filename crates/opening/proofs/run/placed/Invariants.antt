-- `opening::run::placed` meets its contract: the answer from where the loop stands is the answer from the start.
use Prim.Native.Nat.{◌-◌}
use Rattle.opening.proofs.Standing.{Stands}
use Rattle.opening.proofs.run.placed.Given as goal

abbrev pub invariant-loop-block : goal.invariant-loop-block
invariant-loop-block l = Stands l.file l.rows l.count l.end l.rules

abbrev pub decreases-loop-block : goal.decreases-loop-block
decreases-loop-block l = 257 - l.count
