use Rattle.std.proofs.Common.{◌≡◌, ◌+◌, ◌≤◌, ◌∙◌, ◌∷◌, sym, length, drop, Some, None, arith}
use Rattle.std.specs.Prelude.{slice_set}
use lib.ListN.{length-set}
use Rattle.text.specs.Text.{escaped_body, quoted_text}
use Rattle.text.proofs.Buffers.{left_put, left_at, left_done}
use Rattle.text.proofs.Escaping.{escaped_at, escaped_end, over_quoted}
use Rattle.text.proofs.escape.write_quoted.Goals as goal
use Rattle.text.proofs.escape.write_quoted.Goals.{in-Some, in-None}

pub bounds-out-o-in-Some : goal.bounds-out-o-in-Some
bounds-out-o-in-Some c =
    let escaped : escaped_body (drop c.loop-b.b-index c.args.text.now) ≡ 92 ∷ c.in-Some.c ∷ escaped_body (drop (c.loop-b.b-index + 1) c.args.text.now) = escaped_at _ _ c.loop-b-test.true (Some c.in-Some.c) (sym c.letter.ensures ∙ c.in-Some.is) in
    let left = rw escaped at c.loop-b.invariant in
    simp length-set (omega (arith, left.room, left.same, length-set c.args.out.now 0 34))

pub loop-b-preserved : goal.loop-b-preserved
loop-b-preserved c =
    let t = c.args.text.now in
    let room : length (quoted_text t) ≤ length (slice_set c.args.out.now 0 34) = simp length-set c.requires in
    elim c.match-letter.branch [
      | in-Some w ↦
          let escaped : escaped_body (drop c.loop-b.b-index t) ≡ 92 ∷ w.in-Some.c ∷ escaped_body (drop (c.loop-b.b-index + 1) t) = escaped_at _ _ c.loop-b-test.true (Some w.in-Some.c) (sym c.letter.ensures ∙ w.in-Some.is) in
          rw (w.out-is, w.o-is) (left_at (omega arith) (left_put room (left_put room (rw escaped at c.loop-b.invariant))))
      | in-None w ↦
          let plain = escaped_at t _ c.loop-b-test.true None (sym c.letter.ensures ∙ w.in-None.is) in
          rw (w.out-is, w.o-is) (left_put room (rw plain at c.loop-b.invariant))
    ]

pub returns-clause-value : goal.returns-clause-value
returns-clause-value c =
    let left = rw (escaped_end _ c.loop-b.b-index c.loop-b-test.false) at c.loop-b.invariant in
    omega (arith, left.room)

pub returns-clause-out_after : goal.returns-clause-out_after
returns-clause-out_after c =
    let room : length (quoted_text c.args.text.now) ≤ length (slice_set c.args.out.now 0 34) = simp length-set c.requires in
    left_done (left_put room (rw (escaped_end _ c.loop-b.b-index c.loop-b-test.false) at c.loop-b.invariant)) ∙ over_quoted _ _
