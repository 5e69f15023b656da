-- `header::statements::statement_at` meets its contract: its steps are those of `statement_at`.
use mathlib.Core.Path.{sym, ◌∙◌}
use Rattle.std.proofs.Common.{rules}
use Rattle.header.specs.Checks.{separator}
use Rattle.header.proofs.StatementSteps.{nothing_more, no-separator, mark_inside, semicolon_first, empty_key}
use Rattle.header.proofs.StatementSteps.{unended, whole_statement}
use Rattle.header.proofs.statements.statement_at.Goals as goal
use Rattle.header.proofs.statements.statement_at.Goals.{then-s-equals-ne61-via-then-s-equals-ne61, then-s-equals-ne61-via-else-s-equals-ne61+then-equals-first}

pub returns-in_default : goal.returns-in_default
returns-in_default c = sym (nothing_more _ _ (sym c.find_visible.ensures ∙ c.in_default.is))

pub returns-in_err-equals : goal.returns-in_err-equals
returns-in_err-equals c =
    let seen = sym c.find_visible.ensures ∙ c.in-Some.is in
    let none = sym (c.find_where.ensures separator (λ b r q. q)) ∙ c.in_err-equals.ensures.ok_part in
    rw (no-separator _ _ seen none) (search rules)

pub bounds-s-equals : goal.bounds-s-equals
bounds-s-equals c =
    let seen = sym c.find_visible.ensures ∙ c.in-Some.is in
    let mark = sym (c.find_where.ensures separator (λ b r q. q)) ∙ c.in_ok-equals.ensures.ok_part in
    (mark_inside _ _ seen mark).1

pub returns-then-s-equals-ne61 : goal.returns-then-s-equals-ne61
returns-then-s-equals-ne61 c =
    let seen = sym c.find_visible.ensures ∙ c.in-Some.is in
    let mark = sym (c.find_where.ensures separator (λ b r q. q)) ∙ c.in_ok-equals.ensures.ok_part in
    elim c.then-s-equals-ne61.branch [
      | then-s-equals-ne61-via-then-s-equals-ne61 w ↦ sym (semicolon_first _ _ seen mark w.if-s-equals-ne61.true)
      | then-s-equals-ne61-via-else-s-equals-ne61+then-equals-first w ↦
          sym (empty_key _ _ seen mark w.if-s-equals-ne61.false w.if-equals-first.true)
    ]

pub returns-in_err-end : goal.returns-in_err-end
returns-in_err-end c =
    let seen = sym c.find_visible.ensures ∙ c.in-Some.is in
    let mark = sym (c.find_where.ensures separator (λ b r q. q)) ∙ c.in_ok-equals.ensures.ok_part in
    rw (unended _ _ seen mark c.if-s-equals-ne61.false (sym c.find.ensures ∙ c.in_err-end.ensures.ok_part)) (search rules)

pub returns : goal.returns
returns c =
    let seen = sym c.find_visible.ensures ∙ c.in-Some.is in
    let mark = sym (c.find_where.ensures separator (λ b r q. q)) ∙ c.in_ok-equals.ensures.ok_part in
    sym (whole_statement _ _ seen mark c.if-s-equals-ne61.false c.if-equals-first.false (sym c.find.ensures ∙ c.in_ok-end.ensures.ok_part))
