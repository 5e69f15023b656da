-- `opening::identity::repeats` meets its contract: each row is tested as `identity_among` tests it.
use Rattle.std.proofs.Common.{sym, ◌∙◌, rules, tests}
use Rattle.std.proofs.lemmas.Iterator.{YieldsList-from_slice}
use Rattle.std.proofs.lemmas.Iterator.Search.{any_from_yields_List}
use Rattle.blocks.specs.Opening.{same_identity, repeats}
use Rattle.blocks.specs.declared.Row.{Row}
use Rattle.opening.proofs.Searches.{among_any}
use borrow.Author.Tests.{eq-eqb, ne_eqb}
use Rattle.opening.proofs.identity.repeats.Goals as goal

pub returns-then-row-ne0 : goal.returns-then-row-ne0
unfolding repeats
returns-then-row-ne0 c =
    rw (ne_eqb c.args.row.instance 0 c.if-row-ne0.true)
    (any_from_yields_List (λ (y : Row). same_identity y c.args.row) _ _ _ c.any.ensures.ran (YieldsList-from_slice c.args.rows.now cc) (λ x b q k. search (rules, tests))
    ∙ sym (among_any c.args.row c.args.rows.now))

pub returns-else-row-ne0 : goal.returns-else-row-ne0
unfolding repeats
returns-else-row-ne0 c = rw (eq-eqb c.args.row.instance 0 c.if-row-ne0.false)
