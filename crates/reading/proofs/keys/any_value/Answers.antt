use Rattle.std.proofs.Common.{sym, ap, ◌∙◌, Some, arith}
use Rattle.header.proofs.LookupLaws.{first_stands}
use Rattle.reading.proofs.SoughtLaws.{any_none, any_some}
use Rattle.reading.proofs.keys.any_value.Goals as goal

pub returns-in_err-t : goal.returns-in_err-t
returns-in_err-t c = rw (c.from_residual.ensures, any_none _ _ _ (c.in_err-t.ensures))

pub value_bytes-requires : goal.value_bytes-requires
value_bytes-requires c =
    let q = first_stands _ _ _ _ (sym c.in_ok-t.ensures) in (q.0.value_after, omega (arith, q.1))

pub returns : goal.returns
returns c = ap Some c.value_bytes.ensures ∙ sym (any_some _ _ _ c.in_ok-t.ensures)
