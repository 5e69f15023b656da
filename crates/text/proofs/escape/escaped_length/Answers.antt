use Rattle.std.proofs.Common.{◌∙◌, sym, ap, length, Some, None, arith}
use Rattle.text.proofs.Escaping.{escaped_at, escaped_end}
use Rattle.text.proofs.escape.escaped_length.Goals as goal
use Rattle.text.proofs.escape.escaped_length.Goals.{in-Some, in-None}

pub loop-b-preserved : goal.loop-b-preserved
loop-b-preserved c =
    elim c.match-letter.branch [
      | in-Some w ↦
          let e = escaped_at _ _ c.loop-b-test.true (Some w.in-Some.field-0) (sym c.letter.ensures ∙ w.in-Some.is) in
          (omega (arith, w.n-is), omega (arith, ap length e, w.n-is))
      | in-None w ↦
          let e = escaped_at _ _ c.loop-b-test.true None (sym c.letter.ensures ∙ w.in-None.is) in
          (omega (arith, w.n-is), omega (arith, ap length e, w.n-is))
    ]

pub returns : goal.returns
returns c = omega (arith, ap length (escaped_end c.args.text.now c.loop-b.b-index c.loop-b-test.false))
