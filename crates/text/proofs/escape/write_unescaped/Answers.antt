use Rattle.std.proofs.Common.{◌∙◌, sym, arith}
use Rattle.text.specs.Text.{text_of}
use Rattle.text.proofs.Buffers.{left_put, left_done}
use Rattle.text.proofs.Escaping.{skips, opens, gives, text_end}
use Rattle.text.proofs.escape.write_unescaped.Goals as goal
use Rattle.text.proofs.escape.write_unescaped.Goals.{then-not-is_line_break+then-not-opens, then-pending, else-pending, then-not-is_line_break+else-not-opens, else-not-is_line_break}

pub bounds-out-o : goal.bounds-out-o
unfolding text_of
bounds-out-o c =
    let e = gives c.args.value.now _ c.loop-b.pending c.loop-b-test.true (sym c.is_line_break.ensures ∙ c.if-not-is_line_break.true) c.if-not-opens.true in
    let left = rw e at c.loop-b.invariant in
    omega (arith, left.room, left.same)

pub loop-b-preserved : goal.loop-b-preserved
unfolding text_of
loop-b-preserved c =
    let s = c.args.value.now in
    elim c.if-not-is_line_break.branch [
      | then-not-is_line_break+then-not-opens w ↦
          let e = gives s _ c.loop-b.pending c.loop-b-test.true (sym c.is_line_break.ensures ∙ w.if-not-is_line_break.true) w.if-not-opens.true in
          let put = left_put c.requires (rw e at c.loop-b.invariant) in
          rw (w.out-is, w.o-is, w.pending-is, w.if-not-opens.true)
          (elim w.if-pending.branch [
            | then-pending q ↦ rw (q.out-is, q.meaning.ensures) (rw q.if-pending.true at put)
            | else-pending q ↦ rw q.out-is (rw q.if-pending.false at put)
          ])
      | then-not-is_line_break+else-not-opens w ↦
          let e = opens s _ c.loop-b.pending c.loop-b-test.true (sym c.is_line_break.ensures ∙ w.if-not-is_line_break.true) w.if-not-opens.false in
          rw (w.out-is, w.o-is, w.pending-is, w.if-not-opens.false) (rw e at c.loop-b.invariant)
      | else-not-is_line_break w ↦
          let e = skips s _ c.loop-b.pending c.loop-b-test.true (sym c.is_line_break.ensures ∙ w.if-not-is_line_break.false) in
          rw (w.out-is, w.o-is, w.pending-is) (rw e at c.loop-b.invariant)
    ]

pub returns : goal.returns
unfolding text_of
returns c = left_done (rw (text_end _ c.loop-b.b-index c.loop-b.pending c.loop-b-test.false) at c.loop-b.invariant)
