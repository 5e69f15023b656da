-- `edf::open` meets its contract.
use Rattle.std.proofs.Common.{◌∙◌}
use Rattle.scan.proofs.Exits.{exits}
use Rattle.edf.proofs.TableLaws.{left_alone, placed}
use Rattle.edf.proofs.OpeningLaws.{opens_as}
use Rattle.edf.proofs.open.Goals as goal

pub returns-in_err-opened-clause-result_value : goal.returns-in_err-opened-clause-result_value
returns-in_err-opened-clause-result_value c =
    let left = left_alone c.planned.ensures c.args.table.now c.in_err-opened.was in
    (exits _ c.from_residual.ensures.1 ∙ left.0, left.1)

pub returns-in_err-opened-clause-opens_as : goal.returns-in_err-opened-clause-opens_as
returns-in_err-opened-clause-opens_as c =
    let left = left_alone c.planned.ensures c.args.table.now c.in_err-opened.was in
    opens_as c.args.file.now c.args.table.now _ _ (exits _ c.from_residual.ensures.1 ∙ left.0) left.1

pub returns-clause-result_value : goal.returns-clause-result_value
returns-clause-result_value c = placed c.planned.ensures c.args.table.now c.in_ok-opened.was c.copy_from_slice.ensures.after

pub returns-clause-opens_as : goal.returns-clause-opens_as
returns-clause-opens_as c =
    let both = placed c.planned.ensures c.args.table.now c.in_ok-opened.was c.copy_from_slice.ensures.after in
    opens_as c.args.file.now c.args.table.now _ _ both.0 both.1
