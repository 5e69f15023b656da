use Rattle.std.proofs.Common.{sym, ◌∙◌, rules, tests}
use Rattle.std.proofs.lemmas.Iterator.{YieldsList-from_slice}
use Rattle.std.proofs.lemmas.Iterator.Search.{all_from_yields_List}
use Rattle.scan.specs.Search.{is}
use Rattle.reading.proofs.VersionSteps.{every_all}
use Rattle.reading.proofs.version.all_zeros.Goals as goal

pub returns : goal.returns
returns c =
    all_from_yields_List (is 48) _ _ _ c.all.ensures.ran (YieldsList-from_slice c.args.l.now cc) (λ x b q k. search (rules, tests))
    ∙ sym (every_all (is 48) c.args.l.now)
