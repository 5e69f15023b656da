use Rattle.std.proofs.Common.{List, ℕ, ◌+◌, ◌-◌, ◌*◌, refl, ap, ◌∙◌, rules}
use Rattle.raster.specs.Bytes.{joined}
use Rattle.raster.specs.Strided.{place, row_of, plane_of}
use Rattle.strides.specs.Row.{elements_of}
use Rattle.strides.proofs.Filling.{piece_more, pieces_done}
use Rattle.conversion.specs.Converting.{converted}
use Rattle.conversion.proofs.Lengths.{length_rows}
use Rattle.conversion.proofs.rows.rows.Goals as goal

pub loop-i-init : goal.loop-i-init
unfolding plane_of joined
loop-i-init c = search rules

pub loop-i-preserved : goal.loop-i-preserved
unfolding plane_of
loop-i-preserved c =
    let p = c.args.plane.now in
    let w = c.args.c.now.width in
    let f : ℕ → List ℕ = λ (j : ℕ). row_of (converted c.args.c.now) w c.args.src.now (place p.first.at p.up p.down j) p.first.up p.first.down p.first.count in
    let m = w * p.first.count in
    piece_more f m p.count c.args.out.now (length_rows c.args.c.now c.args.src.now p c.requires.inside) c.loop-i.i (m * c.loop-i.i)
    (m * (c.loop-i.i + 1) - m * c.loop-i.i) _ _ c.loop-i-test.true c.loop-i.invariant refl (search rules)
    (c.row-in-loop-i.ensures ∙ ap (elements_of (converted c.args.c.now) w c.args.src.now) c.row.ensures)

pub returns-after-loop-i : goal.returns-after-loop-i
unfolding plane_of
returns-after-loop-i c =
    let p = c.args.plane.now in
    let w = c.args.c.now.width in
    let f : ℕ → List ℕ = λ (j : ℕ). row_of (converted c.args.c.now) w c.args.src.now (place p.first.at p.up p.down j) p.first.up p.first.down p.first.count in
    pieces_done f (w * p.first.count) p.count c.args.out.now (length_rows c.args.c.now c.args.src.now p c.requires.inside) c.loop-i.i _
    c.loop-i.auto.i-end c.loop-i-test.false c.requires.fills c.loop-i.invariant
