use Rattle.std.proofs.Common.{sym, ◌∙◌, rules, tests}
use Rattle.std.proofs.lemmas.Iterator.{YieldsList-from_slice}
use Rattle.std.proofs.lemmas.Iterator.Search.{all_from_yields_List}
use Rattle.text.specs.Number.{digit}
use Rattle.reading.proofs.VersionSteps.{every_all}
use Rattle.reading.proofs.version.all_digits.Goals as goal

pub returns : goal.returns
returns c =
    all_from_yields_List digit _ _ _ c.all.ensures.ran (YieldsList-from_slice c.args.l.now cc) (λ x b q k. search (rules, tests))
    ∙ sym (every_all digit c.args.l.now)
