use Rattle.std.proofs.Common.{sym}
use native.Mathlib.Nat.{le_of_lt}
use lib.Seq.{length-take-le}
use Rattle.reals.proofs.CutLaws.{found_inside}
use Rattle.reals.proofs.parse.cut.Goals as goal

pub slice_bounds-result-end : goal.slice_bounds-result-end
slice_bounds-result-end c =
    sym (length-take-le _ _ (le_of_lt (found_inside c.args.b c.args.l.now c.find.result c.in-Some.i c.find.ensures c.in-Some.is)))
