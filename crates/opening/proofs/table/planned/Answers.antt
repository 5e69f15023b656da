-- `opening::table::planned` meets its contract: each branch's tests say which case of `opened_into` holds.
use Rattle.std.proofs.Common.{sym, ◌∙◌}
use Rattle.opening.proofs.TableLaws.{over_limit, few_rows, as_opened, plans_error, plans_opened}
use Rattle.opening.proofs.table.planned.Goals as goal

pub returns-then-not-within_limit : goal.returns-then-not-within_limit
returns-then-not-within_limit c =
    rw c.error_at.ensures (plans_error _ (over_limit _ _ (sym c.within_limit.ensures ∙ c.if-not-within_limit.true)))

pub returns-then-n-lt-BLOCK_LIMIT : goal.returns-then-n-lt-BLOCK_LIMIT
returns-then-n-lt-BLOCK_LIMIT c =
    rw c.error_at-then-n-lt-BLOCK_LIMIT.ensures
    (plans_error _ (few_rows _ _ (sym c.within_limit.ensures ∙ c.if-not-within_limit.false) c.if-n-lt-BLOCK_LIMIT.true))

pub returns : goal.returns
returns c =
    plans_opened _ _ c.opened.ensures c.if-n-lt-BLOCK_LIMIT.false
    (sym (as_opened _ _ (sym c.within_limit.ensures ∙ c.if-not-within_limit.false) c.if-n-lt-BLOCK_LIMIT.false))
