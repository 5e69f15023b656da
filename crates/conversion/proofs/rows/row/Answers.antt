-- `conversion::rows::row` meets its contract: each way calls the loop for what the elements need.
use Rattle.std.proofs.Common.{sym, ap, ◌∙◌}
use Rattle.raster.specs.Strided.{row_of}
use Rattle.conversion.specs.Converting.{made_by}
use Rattle.conversion.specs.declared.conversion.Way.{Way}
use Rattle.conversion.proofs.rows.row.Goals as goal

pub returns-in-Kept : goal.returns-in-Kept
unfolding made_by
returns-in-Kept c =
    let r = c.args.row.now in
    c.kept.ensures ∙ ap (λ (y : Way). row_of (made_by c.args.c.now.width y) c.args.c.now.width c.args.src.now r.at r.up r.down r.count) (sym c.in-Kept.is)

pub returns-in-Reversed : goal.returns-in-Reversed
unfolding made_by
returns-in-Reversed c =
    let r = c.args.row.now in
    c.reversed.ensures ∙ ap (λ (y : Way). row_of (made_by c.args.c.now.width y) c.args.c.now.width c.args.src.now r.at r.up r.down r.count) (sym c.in-Reversed.is)

pub returns-in-Added : goal.returns-in-Added
unfolding made_by
returns-in-Added c =
    let r = c.args.row.now in
    c.with_offset.ensures ∙ ap (λ (y : Way). row_of (made_by c.args.c.now.width y) c.args.c.now.width c.args.src.now r.at r.up r.down r.count) (sym c.in-Added.is)
