-- `records::table::put_rows` meets its contract.
use mathlib.Core.Path.{◌≡◌, ◌∙◌}
use Prim.Native.Nat.{◌+◌, ◌-◌, ◌*◌}
use native.Mathlib.Omega.{arith}
use Rattle.records.proofs.Tabling.{laid_none, laid_more, laid_all}
use Rattle.records.proofs.table.put_rows.Goals as goal

pub loop-i-init : goal.loop-i-init
loop-i-init c = laid_none c.args.rows.now _

pub loop-i-preserved : goal.loop-i-preserved
loop-i-preserved c =
    let e : 7 * (c.loop-i.i + 1) - 7 * c.loop-i.i ≡ 7 = omega arith in
    rw e (laid_more c.args.rows.now c.args.numbers.now c.loop-i.i _ _ c.loop-i.invariant
    (c.copy_from_slice.ensures.after ∙ c.row_numbers.ensures))

pub returns : goal.returns
returns c = laid_all c.args.rows.now _ c.loop-i.i _ (omega arith) c.loop-i.invariant
