-- `opening::run::opened` meets its contract.
use Rattle.std.proofs.Common.{sym, subst}
use Rattle.scan.specs.Outcome.{Outcome}
use Rattle.scan.proofs.Exits.{exits}
use Rattle.opening.specs.Core.{Opens}
use Rattle.opening.specs.declared.Opened.{Opened}
use Rattle.opening.proofs.run.opened.Goals as goal

pub returns-in_err-opened : goal.returns-in_err-opened
returns-in_err-opened c =
    subst (λ (r : Outcome Opened). Opens c.args.file.now r) (sym (exits _ c.from_residual.ensures.1)) c.in_err-opened.ensures
