-- `gaps::kind::is_well_formed` meets its contract. The invariant: the statements from where the walk stands are well formed just
-- when all are.
use Rattle.std.proofs.Common.{◌≡◌, is_some}
use Rattle.header.specs.Statements.{statements_from}
use Rattle.gaps.proofs.kind.is_well_formed.Given as goal

abbrev pub invariant-loop-next : goal.invariant-loop-next
invariant-loop-next l = record {
  bytes : l.next-iterator.s.now ≡ l.s;
  formed : is_some (statements_from l.s l.from) ≡ is_some (statements_from l.s l.next-iterator.at);
}
