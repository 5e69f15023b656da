-- `elements::rows::reversed` meets its contract: one byte is its own reverse.
use Rattle.std.proofs.Common.{rules, ◌≡◌, true, ℕ, refl, sym, ap, ◌∙◌}
use Rattle.raster.specs.Strided.{turned, row_of}
use Rattle.elements.proofs.Ways.{either_order}
use Rattle.elements.proofs.rows.reversed.Goals as goal

pub returns-in_default : goal.returns-in_default
returns-in_default c =
    let r = c.args.row.now in
    let one : c.args.w ≡ 1 = search rules in
    c.kept_of_width.ensures ∙ either_order 1 c.args.src.now r.at r.up r.down r.count refl
    ∙ ap (λ (w : ℕ). row_of (turned true) w c.args.src.now r.at r.up r.down r.count) (sym one)
