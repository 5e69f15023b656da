-- `columns::described::dims_column` meets its contract.
use native.Mathlib.Omega.{arith}
use Prim.Native.Nat.{◌-◌}
use lib.ListN.{length, take, drop, length-take, length-drop}
use Rattle.columns.specs.Columns.{after}
use Rattle.append.proofs.Appending.{within_then, within_is, within_more, within_nothing}
use Rattle.columns.proofs.ColumnLaws.{after_more, dims_joined}
use Rattle.columns.proofs.described.dims_column.Goals as goal

pub loop-dim-init : goal.loop-dim-init
unfolding after
loop-dim-init c = within_nothing (omega arith)

pub loop-dim-preserved : goal.loop-dim-preserved
loop-dim-preserved c =
    let rest = take (length c.args.dims.now - 1) (drop 1 c.args.dims.now) in
    within_is (after_more c.loop-dim.dim-index rest (omega (arith, length-take (length c.args.dims.now - 1) (drop 1 c.args.dims.now), length-drop 1 c.args.dims.now)))
    (within_more (omega arith) (within_then c.loop-dim.invariant c.number_after-in-loop-dim.ensures))

pub returns : goal.returns
returns c =
    within_is (dims_joined c.loop-dim.dim-index c.args.dims.now c.requires.some.0 (omega arith))
    (within_more (omega arith) (within_then c.number_after.ensures c.loop-dim.invariant))
