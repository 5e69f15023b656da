use mathlib.Core.Path.{◌∙◌}
use Prim.Native.Nat.{◌-◌}
use native.Mathlib.Omega.{arith}
use lib.ListN.{length-set}
use Rattle.text.proofs.DigitWriting.{front_kept, more, less, turn, last}
use borrow.Author.Rules.{rules}
use Rattle.text.proofs.decimal.put_digits.Goals as goal

pub loop-rest-preserved : goal.loop-rest-preserved
loop-rest-preserved c =
    let m = more c.loop-rest.i c.loop-rest.rest c.loop-rest.invariant.0 c.loop-rest-test.true c.loop-rest.invariant.3 in (
      omega arith,
      omega arith,
      simp length-set c.loop-rest.invariant.2,
      less c.loop-rest.i c.loop-rest.rest c.loop-rest.invariant.0 c.loop-rest.invariant.3,
      turn c.loop-rest.i c.loop-rest.rest c.loop-rest.out c.loop-rest.invariant.0 (omega arith) c.loop-rest-test.true ∙ c.loop-rest.invariant.4,
      front_kept (c.loop-rest.i - 1) c.loop-rest.i c.loop-rest.i _ c.loop-rest.out _ (omega arith) (omega arith) c.loop-rest.invariant.5,
    )

pub returns : goal.returns
returns c =
    let text = last c.loop-rest.i c.loop-rest.rest c.loop-rest.out c.loop-rest.invariant.0 (omega arith) c.loop-rest-test.false ∙ c.loop-rest.invariant.4 in
    (search rules, search rules, text, front_kept c.loop-rest.i c.loop-rest.i c.loop-rest.i _ c.loop-rest.out _ (omega arith) (omega arith) c.loop-rest.invariant.5)
