-- `header::statements::Statements::next` meets its contract: what it passes lies inside the bytes.
use Rattle.std.proofs.Common.{◌<◌, length, sym, ap, ◌∙◌, Some, arith}
use Rattle.header.proofs.Leading.{statement-lies, malformed-lies}
use Rattle.header.proofs.WalkSteps.{one_given, error_given}
use Rattle.header.proofs.statements.StatementsIterator.next.Goals as goal
use Rattle.header.proofs.statements.StatementsIterator.next.Goals.{in-Ok, in-Err}

pub overflow_add-self : goal.overflow_add-self
overflow_add-self c =
    let found = sym c.statement_at.ensures ∙ one_given _ (sym c.in_ok-next.ensures ∙ ap Some c.in-Ok.is) in
    omega (arith, statement-lies _ _ _ found)

pub returns-clause-goes : goal.returns-clause-goes
returns-clause-goes c =
    let on : (c.args.self.now.at < c.match-next.self) × (c.args.self.now.at < length c.args.self.now.s.now) =
    elim c.match-next.branch [
      | in-Ok w ↦
          let found = sym c.statement_at.ensures ∙ one_given _ (sym c.in_ok-next.ensures ∙ ap Some w.in-Ok.is) in
          (omega (arith, statement-lies _ _ _ found), omega (arith, statement-lies _ _ _ found))
      | in-Err w ↦
          let found = sym c.statement_at.ensures ∙ error_given _ (sym c.in_ok-next.ensures ∙ ap Some w.in-Err.is) in
          (omega (arith, malformed-lies _ _ found), malformed-lies _ _ found)
    ] in
    record { on = λ f. (tt, f, omega arith); keeps = tt; rests = λ f. tt }
