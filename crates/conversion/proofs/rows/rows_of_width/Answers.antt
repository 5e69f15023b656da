-- `conversion::rows::rows_of_width` meets its contract: each way is a change of the elements.
use Rattle.std.proofs.Common.{sym, ap, ◌∙◌}
use Rattle.conversion.specs.Converting.{made_by}
use Rattle.conversion.specs.Plane.{rows_of}
use Rattle.conversion.specs.declared.conversion.Way.{Way}
use Rattle.conversion.proofs.rows.rows_of_width.Goals as goal

pub returns-in-Kept : goal.returns-in-Kept
unfolding made_by
returns-in-Kept g c =
    c.rows_by.ensures ∙ ap (λ (y : Way). rows_of (made_by g.row.W y) g.row.W c.args.src.now c.args.plane.now) (sym c.in-Kept.is)

pub returns-in-Reversed : goal.returns-in-Reversed
unfolding made_by
returns-in-Reversed g c =
    c.rows_by-in-Reversed.ensures ∙ ap (λ (y : Way). rows_of (made_by g.row.W y) g.row.W c.args.src.now c.args.plane.now) (sym c.in-Reversed.is)

pub returns-in-Added : goal.returns-in-Added
unfolding made_by
returns-in-Added g c =
    c.rows_by-in-Added.ensures ∙ ap (λ (y : Way). rows_of (made_by g.row.W y) g.row.W c.args.src.now c.args.plane.now) (sym c.in-Added.is)
