use Rattle.std.proofs.Common.{◌≡◌, ℕ, ◌+◌, ◌-◌, ◌*◌, ◌/◌, ◌≤◌, length, refl, sym, ap, subst, ◌∙◌, arith, rules}
use Rattle.scan.specs.Buffer.{over}
use Rattle.raster.specs.Bytes.{joined}
use Rattle.raster.specs.Strided.{plane_of}
use Rattle.strides.specs.declared.places.Row.{Row}
use Rattle.conversion.specs.Converting.{converted}
use Rattle.conversion.specs.Plane.{IsInside, rows_of}
use Rattle.conversion.proofs.Lengths.{length-converted}
use Rattle.delivery.proofs.BandLaws.{part_size, part_room, band_inside, bands_more, bands_done}
use Rattle.delivery.proofs.tiles.bands.Goals as goal

pub loop-i-init : goal.loop-i-init
unfolding plane_of joined
loop-i-init c = search rules

pub band-requires-clause-inside : goal.band-requires-clause-inside
band-requires-clause-inside c =
    let a = c.args in
    let p = a.plane in
    let n = c.min-count.result in
    let fits : c.loop-i.i + n ≤ p.count = omega (arith, c.min-count.ensures) in
    subst (λ (r : Row). IsInside (record { first = r; up = p.up; down = p.down; count = n }) a.c.width (length a.src.now)) (sym c.row.ensures)
    (band_inside (converted a.c) a.c.width (length-converted a.c) a.src.now p.first.at p.first.up p.first.down p.first.count p.up p.down p.count
    c.requires.inside c.loop-i.i n fits)

pub band-requires-clause-fills : goal.band-requires-clause-fills
band-requires-clause-fills c =
    let a = c.args in
    let p = a.plane in
    let n = c.min-count.result in
    let fits : c.loop-i.i + n ≤ p.count = omega (arith, c.min-count.ensures) in
    part_room (a.c.width * p.first.count) c.loop-i.i n p.count c.loop-i.out fits (c.loop-i.auto.out ∙ c.requires.fills)
    ∙ ap (λ (r : Row). a.c.width * r.count * n) (sym c.row.ensures)

pub loop-i-preserved : goal.loop-i-preserved
loop-i-preserved c =
    let a = c.args in
    let p = a.plane in
    let f = converted a.c in
    let m = a.c.width * p.first.count in
    let n = c.min-count.result in
    let fits : c.loop-i.i + n ≤ p.count = omega (arith, c.min-count.ensures) in
    let whole : n ≡ 256 / a.c.width = omega (arith, c.min-count.ensures) in (
      omega (arith, whole, fits),
      bands_more f a.c.width (length-converted a.c) a.src.now p.first.at p.first.up p.first.down p.first.count p.up p.down p.count
          c.requires.inside c.loop-i.i n fits (m * c.loop-i.i) (m * (c.loop-i.i + n) - m * c.loop-i.i) a.out.now _ _ c.loop-i.invariant.1 refl
          (part_size m c.loop-i.i n)
          (c.band.ensures ∙ ap (λ (r : Row). rows_of f a.c.width a.src.now (record { first = r; up = p.up; down = p.down; count = n })) c.row.ensures)
          ∙ ap (λ (k : ℕ). over (plane_of f a.c.width a.src.now p.first.at p.first.up p.first.down p.first.count p.up p.down (c.loop-i.i + k)) a.out.now) whole,
    )

pub returns : goal.returns
returns c =
    let a = c.args in
    let p = a.plane in
    bands_done (converted a.c) a.c.width (length-converted a.c) a.src.now p.first.at p.first.up p.first.down p.first.count p.up p.down p.count
    c.requires.inside c.loop-i.i a.out.now _ c.loop-i.invariant.0 c.loop-i-test.false c.requires.fills c.loop-i.invariant.1

pub returns-2 : goal.returns-2
returns-2 c =
    let a = c.args in
    let p = a.plane in
    let f = converted a.c in
    let m = a.c.width * p.first.count in
    let n = c.min-count.result in
    let fits : c.loop-i.i + n ≤ p.count = omega (arith, c.min-count.ensures) in
    let last : p.count ≤ c.loop-i.i + n = omega (arith, c.min-count.ensures) in
    bands_done f a.c.width (length-converted a.c) a.src.now p.first.at p.first.up p.first.down p.first.count p.up p.down p.count
    c.requires.inside (c.loop-i.i + n) a.out.now _ fits last c.requires.fills
    (bands_more f a.c.width (length-converted a.c) a.src.now p.first.at p.first.up p.first.down p.first.count p.up p.down p.count
    c.requires.inside c.loop-i.i n fits (m * c.loop-i.i) (m * (c.loop-i.i + n) - m * c.loop-i.i) a.out.now _ _ c.loop-i.invariant.1 refl
    (part_size m c.loop-i.i n)
    (c.band.ensures ∙ ap (λ (r : Row). rows_of f a.c.width a.src.now (record { first = r; up = p.up; down = p.down; count = n })) c.row.ensures))
