-- `edf_c::files::edf_open` meets its contract.
use Rattle.edf_c.proofs.Opening.{opens_numbers}
use Rattle.edf_c.proofs.Tabling.{opened_rows, not_opened}
use Rattle.edf_c.proofs.files.edf_open.Goals as goal

pub returns-in-Ok-clause-opens_numbers : goal.returns-in-Ok-clause-opens_numbers
returns-in-Ok-clause-opens_numbers c =
    opens_numbers _ _ _ _ _ _ _ _
    (opened_rows c.planned.ensures c.args.rows.now c.args.count.now c.args.position.now c.in-Ok.is c.put_rows.ensures)

pub returns-in-Err-clause-opens_numbers : goal.returns-in-Err-clause-opens_numbers
returns-in-Err-clause-opens_numbers c =
    rw (c.put_error.ensures.code, c.put_error.ensures.position_after)
    (opens_numbers _ _ _ _ _ _ _ _ (not_opened c.planned.ensures c.args.rows.now c.args.count.now c.args.position.now c.in-Err.is))
