use Rattle.std.proofs.Common.{◌≡◌, ◌+◌, ◌*◌, ◌/◌, ◌<◌, ◌≤◌, ◌-◌, ℕ, refl, ap, ◌∙◌, arith, rules}
use Rattle.scan.specs.Buffer.{over}
use Rattle.raster.specs.Bytes.{joined}
use Rattle.raster.specs.Strided.{row_of}
use Rattle.strides.proofs.RowLaws.{row_done}
use Rattle.shift.specs.Adding.{added}
use Rattle.shift.proofs.Digits.{length_added}
use Rattle.offsets.proofs.BlockLaws.{block_some, block_inside, block_more}
use Rattle.offsets.proofs.blocks.blocks.Goals as goal

pub loop-i-init : goal.loop-i-init
unfolding row_of joined
loop-i-init g c = search rules

pub block-requires-clause-fits : goal.block-requires-clause-fits
block-requires-clause-fits g c =
    let w = g.row.W in
    let r = c.args.row in
    let k = c.min-count.result in
    let h = block_some c.requires.short in
    let some : 0 < k = omega (arith, c.min-count.ensures, h) in
    let fits : c.loop-i.i + k ≤ r.count = omega (arith, c.min-count.ensures) in
    record {
      inside = block_inside (added w c.args.a) w (length_added c.args.a) c.args.src.now r.at r.up r.down r.count c.requires.fits.inside
          c.loop-i.i k c.spot-at.result some fits c.spot-at.ensures.0;
      out_len = search rules;
    }

pub loop-i-preserved : goal.loop-i-preserved
loop-i-preserved g c =
    let w = g.row.W in
    let r = c.args.row in
    let k = c.min-count.result in
    let h = block_some c.requires.short in
    let some : 0 < k = omega (arith, c.min-count.ensures, h) in
    let fits : c.loop-i.i + k ≤ r.count = omega (arith, c.min-count.ensures) in
    let whole : k ≡ 1024 / w = omega (arith, c.min-count.ensures) in (
      omega (arith, whole, fits),
      block_more (added w c.args.a) w (length_added c.args.a) c.args.src.now r.at r.up r.down r.count c.requires.fits.inside c.loop-i.i k
          c.spot-at.result some fits c.spot-at.ensures.0 (w * c.loop-i.i) (w * (c.loop-i.i + k) - w * c.loop-i.i) c.args.out.now _ _ refl (search rules)
          c.loop-i.invariant.1 c.block.ensures
          ∙ ap (λ (m : ℕ). over (row_of (added w c.args.a) w c.args.src.now r.at r.up r.down (c.loop-i.i + m)) c.args.out.now) whole,
    )

pub returns : goal.returns
returns g c =
    let r = c.args.row in
    row_done (added g.row.W c.args.a) g.row.W (length_added c.args.a) c.args.src.now r.at r.up r.down r.count c.requires.fits.inside c.loop-i.i
    c.args.out.now _ c.loop-i.invariant.0 c.loop-i-test.false c.requires.fits.out_len c.loop-i.invariant.1

pub returns-2 : goal.returns-2
returns-2 g c =
    let w = g.row.W in
    let r = c.args.row in
    let k = c.min-count.result in
    let h = block_some c.requires.short in
    let some : 0 < k = omega (arith, c.min-count.ensures, h) in
    let fits : c.loop-i.i + k ≤ r.count = omega (arith, c.min-count.ensures) in
    row_done (added w c.args.a) w (length_added c.args.a) c.args.src.now r.at r.up r.down r.count c.requires.fits.inside (c.loop-i.i + k)
    c.args.out.now _ fits (omega (arith, c.min-count.ensures)) c.requires.fits.out_len
    (block_more (added w c.args.a) w (length_added c.args.a) c.args.src.now r.at r.up r.down r.count c.requires.fits.inside c.loop-i.i k
    c.spot-at.result some fits c.spot-at.ensures.0 (w * c.loop-i.i) (w * (c.loop-i.i + k) - w * c.loop-i.i) c.args.out.now _ _ refl (search rules)
    c.loop-i.invariant.1 c.block.ensures)
