use Rattle.std.proofs.Common.{◌≡◌, List, ℕ, ◌+◌, ◌-◌, ◌*◌, ap, ◌∙◌, rules}
use Rattle.raster.specs.Bytes.{joined}
use Rattle.raster.specs.Strided.{place, patched, row_of, plane_of}
use Rattle.strides.specs.Row.{elements_of}
use Rattle.strides.proofs.Filling.{joined_more, joined_all}
use Rattle.conversion.proofs.rows.rows_by.Goals as goal

pub loop-i-init : goal.loop-i-init
unfolding plane_of joined
loop-i-init g c = search rules

pub loop-i-preserved : goal.loop-i-preserved
unfolding plane_of
loop-i-preserved g c =
    let p = c.args.plane.now in
    let w = g.row.W in
    let made = g.C.Change.made c.args.by.now in
    let m = w * p.first.count in
    let i = c.loop-i.i in
    let f : ℕ → List ℕ = λ (j : ℕ). row_of made w c.args.src.now (place p.first.at p.up p.down j) p.first.up p.first.down p.first.count in
    let e : m * (i + 1) - m * i ≡ m = search rules in
    joined_more f m c.args.out.now i c.loop-i.out c.each.new.out _ c.loop-i.invariant (search rules)
    (c.each.ensures ∙ ap (elements_of made w c.args.src.now) c.row.ensures) (ap (λ (k : ℕ). patched (m * i) k c.loop-i.out c.each.new.out) e)

pub returns : goal.returns
unfolding plane_of
returns g c =
    let p = c.args.plane.now in
    let w = g.row.W in
    let f : ℕ → List ℕ =
    λ (j : ℕ). row_of (g.C.Change.made c.args.by.now) w c.args.src.now (place p.first.at p.up p.down j) p.first.up p.first.down p.first.count in
    joined_all f (w * p.first.count) c.args.out.now c.loop-i.i p.count c.loop-i.out c.loop-i.auto.i-end c.loop-i-test.false c.requires.fills
    c.loop-i.invariant
