use Rattle.std.proofs.Common.{◌≡◌, List, ℕ, ◌+◌, ◌-◌, ◌*◌, ◌<◌, false, length, take, drop, refl, sym, ap, ◌∙◌, arith, rules}
use native.Mathlib.Nat.{mul-one}
use Rattle.raster.specs.Bytes.{joined}
use Rattle.raster.specs.Strided.{turned, place, row_of, plane_of}
use Rattle.strides.specs.declared.places.Row.{Row}
use Rattle.strides.proofs.Filling.{piece_more, pieces_done}
use Rattle.strides.proofs.RowLaws.{keeps, length_row}
use Rattle.elements.proofs.RunLaws.{runs_inside, ran}
use Rattle.delivery.proofs.BandLaws.{part_room}
use Rattle.delivery.proofs.StoredRows.{plane_bytes}
use Rattle.delivery.proofs.runs.runs.Goals as goal

pub loop-i-init : goal.loop-i-init
unfolding plane_of joined
loop-i-init c = search rules

pub run-requires : goal.run-requires
run-requires c =
    let p = c.args.plane in
    let w = c.args.w in
    let m = w * p.first.count in
    let size = part_room m c.loop-i.i 1 p.count c.loop-i.out (omega arith) (c.loop-i.auto.out ∙ c.requires.fills) in
    let room = runs_inside w p.first.up p.first.down (place p.first.at p.up p.down c.loop-i.i) p.first.count (length c.args.src.now) m c.requires.up
    c.requires.down refl (c.requires.inside c.loop-i.i c.loop-i-test.true).1
    in
    let at : c.row.result.at ≡ place p.first.at p.up p.down c.loop-i.i = ap (λ (r : Row). r.at) c.row.ensures in
    omega (arith, size, room, at)

pub loop-i-preserved : goal.loop-i-preserved
unfolding plane_of
loop-i-preserved c =
    let p = c.args.plane in
    let w = c.args.w in
    let m = w * p.first.count in
    let s = c.args.src.now in
    let f : ℕ → List ℕ = λ (j : ℕ). row_of (turned false) w s (place p.first.at p.up p.down j) p.first.up p.first.down p.first.count in
    let wide : (j : ℕ) → j < p.count → length (f j) ≡ m =
    (λ j h. length_row (turned false) w (keeps false) s _ p.first.up p.first.down p.first.count (c.requires.inside j h).1)
    in
    let size = part_room m c.loop-i.i 1 p.count c.loop-i.out (omega arith) (c.loop-i.auto.out ∙ c.requires.fills) in
    let part = length (take (m * (c.loop-i.i + 1) - m * c.loop-i.i) (drop (m * c.loop-i.i) c.loop-i.out)) in
    piece_more f m p.count c.args.out.now wide c.loop-i.i (m * c.loop-i.i) (m * (c.loop-i.i + 1) - m * c.loop-i.i) _ _ c.loop-i-test.true
    c.loop-i.invariant refl (search rules)
    (ran w p.first.up p.first.down (place p.first.at p.up p.down c.loop-i.i) p.first.count _ s _ c.requires.up c.requires.down
    (size ∙ mul-one m) (c.run.ensures ∙ ap (λ (r : Row). take part (drop r.at s)) c.row.ensures))

pub returns-clause-elements : goal.returns-clause-elements
unfolding plane_of
returns-clause-elements c =
    let p = c.args.plane in
    let w = c.args.w in
    let s = c.args.src.now in
    let f : ℕ → List ℕ = λ (j : ℕ). row_of (turned false) w s (place p.first.at p.up p.down j) p.first.up p.first.down p.first.count in
    pieces_done f (w * p.first.count) p.count c.args.out.now
    (λ j h. length_row (turned false) w (keeps false) s _ p.first.up p.first.down p.first.count (c.requires.inside j h).1) c.loop-i.i _
    c.loop-i.auto.i-end c.loop-i-test.false c.requires.fills c.loop-i.invariant

pub returns-clause-bytes : goal.returns-clause-bytes
returns-clause-bytes c =
    returns-clause-elements c ∙ sym (plane_bytes c.args.w c.args.plane c.requires.up c.requires.down c.args.src.now)
