use Rattle.std.proofs.Common.{◌∙◌, sym, ap, length, arith}
use Rattle.text.specs.Text.{text_of}
use Rattle.text.proofs.Escaping.{skips, opens, gives, text_end}
use Rattle.text.proofs.escape.text_length.Goals as goal
use Rattle.text.proofs.escape.text_length.Goals.{then-not-is_line_break+then-not-opens, then-not-is_line_break+else-not-opens, else-not-is_line_break}

pub loop-b-preserved : goal.loop-b-preserved
loop-b-preserved c =
    let s = c.args.value.now in
    elim c.if-not-is_line_break.branch [
      | then-not-is_line_break+then-not-opens w ↦
          let e = gives s _ c.loop-b.pending c.loop-b-test.true (sym c.is_line_break.ensures ∙ w.if-not-is_line_break.true) w.if-not-opens.true in
          rw (w.n-is, w.pending-is, w.if-not-opens.true) (omega arith, omega (arith, ap length e))
      | then-not-is_line_break+else-not-opens w ↦
          let e = opens s _ c.loop-b.pending c.loop-b-test.true (sym c.is_line_break.ensures ∙ w.if-not-is_line_break.true) w.if-not-opens.false in
          rw (w.n-is, w.pending-is, w.if-not-opens.false) (omega arith, omega (arith, ap length e))
      | else-not-is_line_break w ↦
          let e = skips s _ c.loop-b.pending c.loop-b-test.true (sym c.is_line_break.ensures ∙ w.if-not-is_line_break.false) in
          rw (w.n-is, w.pending-is) (omega arith, omega (arith, ap length e))
    ]

pub returns : goal.returns
unfolding text_of
returns c = omega (arith, ap length (text_end c.args.value.now c.loop-b.b-index c.loop-b.pending c.loop-b-test.false))
