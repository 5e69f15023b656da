use Rattle.std.proofs.Common.{List, ℕ, ◌+◌, ◌-◌, ◌*◌, refl, ap, ◌∙◌, rules}
use Rattle.raster.specs.Bytes.{joined}
use Rattle.strides.proofs.Filling.{piece_more, pieces_over}
use Rattle.conversion.specs.Converting.{converted}
use Rattle.conversion.specs.Plane.{rows_of}
use Rattle.delivery.specs.Cube.{plane_at, planes_of}
use Rattle.delivery.proofs.Planes.{length_planes}
use Rattle.delivery.proofs.arrays.deliver_planes.Goals as goal

pub loop-i-init : goal.loop-i-init
unfolding joined
loop-i-init c = refl

pub loop-i-preserved : goal.loop-i-preserved
loop-i-preserved c =
    let a = c.args in
    let m = a.c.width * a.cube.first.first.count * a.cube.first.count in
    let f : ℕ → List ℕ = λ (j : ℕ). rows_of (converted a.c) a.c.width a.src.now (plane_at a.cube j) in
    piece_more f m a.cube.count a.out.now (length_planes a.c a.src.now a.cube c.requires.inside) c.loop-i.i (m * c.loop-i.i)
    (m * (c.loop-i.i + 1) - m * c.loop-i.i) _ _ c.loop-i-test.true c.loop-i.invariant refl (search rules)
    (c.deliver_plane.ensures ∙ ap (rows_of (converted a.c) a.c.width a.src.now) c.plane.ensures)

pub returns : goal.returns
unfolding planes_of
returns c =
    let a = c.args in
    let m = a.c.width * a.cube.first.first.count * a.cube.first.count in
    let f : ℕ → List ℕ = λ (j : ℕ). rows_of (converted a.c) a.c.width a.src.now (plane_at a.cube j) in
    pieces_over f m a.cube.count a.out.now (length_planes a.c a.src.now a.cube c.requires.inside) c.loop-i.i _ c.loop-i.auto.i-end
    c.loop-i-test.false c.loop-i.invariant
