-- `rendering::lines::dim_lines` meets its contract.
use mathlib.Core.Path.{ap}
use mathlib.Core.List.{List}
use Prim.Native.Nat.{ℕ}
use native.Mathlib.Omega.{arith}
use lib.IntN.{pos}
use lib.ListN.{length, get_or}
use Rattle.text.specs.Decimal.{decimal}
use Rattle.append.proofs.Appending.{within_then, within_is, within_more, within_nothing}
use Rattle.rendering.specs.Render.{keyword, dim_keywords, line, lines}
use Rattle.rendering.proofs.LineLaws.{dims_more, key_short}
use Rattle.rendering.proofs.lines.dim_lines.Goals as goal

pub loop-i-init : goal.loop-i-init
unfolding dim_keywords lines
loop-i-init c = within_nothing (omega arith)

pub number_line-requires : goal.number_line-requires
number_line-requires c =
    (c.requires.small c.loop-i.i (omega arith), omega (arith, ap length c.dim_key.ensures, key_short c.loop-i.i (omega arith)))

pub loop-i-preserved : goal.loop-i-preserved
loop-i-preserved c =
    let named = within_is (ap (λ (k : List ℕ). line (keyword k (decimal (pos (get_or c.args.dims.now c.loop-i.i 0))))) c.dim_key.ensures) c.number_line.ensures in
    within_is (dims_more c.loop-i.i c.args.dims.now (omega arith))
    (within_more (omega (arith, ap length c.dim_key.ensures, key_short c.loop-i.i (omega arith))) (within_then c.loop-i.invariant named))
