-- `keyword::lookup::value_in` meets its contract.
use mathlib.Core.Path.{sym, ◌∙◌}
use Rattle.keyword.proofs.Lookups.{none_past, none_found, found_lies, one_found}
use Rattle.keyword.proofs.lookup.value_in.Goals as goal

pub returns-then-file-h : goal.returns-then-file-h
returns-then-file-h c = none_past _ _ _ c.if-file-h.true

pub returns-in_err-t : goal.returns-in_err-t
returns-in_err-t c =
    rw c.from_residual.ensures (none_found _ _ _ _ c.up_to-body.ensures (sym c.in_err-t.was ∙ c.find_key.ensures))

pub value_of-requires : goal.value_of-requires
value_of-requires c = found_lies _ _ _ _ (sym c.in_ok-t.was ∙ c.find_key.ensures)

pub returns : goal.returns
returns c =
    one_found _ _ _ _ c.up_to-body.ensures _ (sym c.in_ok-t.was ∙ c.find_key.ensures) _ c.value_of.ensures
