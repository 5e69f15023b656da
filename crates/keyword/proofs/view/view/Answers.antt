-- `keyword::view::view` meets its contract.
use native.Mathlib.Omega.{arith}
use mathlib.Core.Path.{ap, ◌∙◌}
use Rattle.scan.proofs.Exits.{exits}
use Rattle.keyword.specs.Viewing.{viewed_outcome}
use Rattle.keyword.proofs.Views.{too_large, opening-failed, opening_short, opening_row}
use Rattle.keyword.proofs.view.view.Goals as goal

pub returns-then-file-gt-FILE_LIMIT : goal.returns-then-file-gt-FILE_LIMIT
returns-then-file-gt-FILE_LIMIT c = too_large _ _ c.if-file-gt-FILE_LIMIT.true

pub returns-in_err-opening : goal.returns-in_err-opening
returns-in_err-opening c =
    ap (viewed_outcome _) (exits _ c.from_residual.ensures.1)
    ∙ opening-failed _ _ _ c.opened.ensures (omega arith) c.in_err-opening.was

pub returns-then-opening-block : goal.returns-then-opening-block
returns-then-opening-block c = opening_short _ _ _ c.opened.ensures (omega arith) c.in_ok-opening.was (omega arith)

pub returns : goal.returns
returns c = opening_row _ _ _ c.opened.ensures (omega arith) c.in_ok-opening.was (omega arith) _ c.view_row.ensures
