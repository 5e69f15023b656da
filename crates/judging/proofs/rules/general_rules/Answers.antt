-- `judging::rules::general_rules` meets its contract.
use Rattle.std.proofs.Common.{sym, ◌∙◌}
use Rattle.reading.proofs.SoughtLaws.{boundary_number}
use Rattle.judging.proofs.FirstLaws.{unversioned, uncounted, unbounded, general_good}
use Rattle.judging.proofs.rules.general_rules.Goals as goal

pub returns-then-not-is_version : goal.returns-then-not-is_version
returns-then-not-is_version c =
    unversioned c.requires.entries _ c.requires.value (sym c.is_version.ensures ∙ c.if-not-is_version.true)

pub returns-in_err-expected : goal.returns-in_err-expected
returns-in_err-expected c =
    c.from_residual.ensures
    ∙ uncounted c.requires.entries _ c.requires.value (sym c.is_version.ensures ∙ c.if-not-is_version.false) c.in_err-expected.ensures

pub returns-in_err-boundary : goal.returns-in_err-boundary
returns-in_err-boundary c =
    c.from_residual-in_err-boundary.ensures
    ∙ unbounded c.requires.entries _ c.requires.value (sym c.is_version.ensures ∙ c.if-not-is_version.false)
    c.in_ok-expected.ensures (boundary_number _ c.in_err-boundary.ensures)

pub returns : goal.returns
returns c =
    general_good c.requires.entries _ c.requires.value (sym c.is_version.ensures ∙ c.if-not-is_version.false)
    c.in_ok-expected.ensures (boundary_number _ c.in_ok-boundary.ensures)
