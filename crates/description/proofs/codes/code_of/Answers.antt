-- `description::codes::code_of` meets its contract.
use Rattle.std.specs.Prelude.{suc, option_map, ◌≡◌}
use Rattle.std.specs.List.{position}
use Rattle.std.proofs.Common.{rules, tests}
use Rattle.std.proofs.lemmas.Iterator.{YieldsList-from_slice}
use Rattle.std.proofs.lemmas.Iterator.Search.{position_from_yields_List}
use mathlib.Core.Path.{sym, ap, ◌∙◌}
use native.Mathlib.Numerals.{add-one}
use Rattle.description.proofs.CodeLaws.{is_word, code_by_place}
use Rattle.description.proofs.codes.code_of.Goals as goal

pub returns-in_err-place : goal.returns-in_err-place
returns-in_err-place c =
    let placed : c.position.result ≡ position (is_word c.args.v.now) c.args.words.now =
    position_from_yields_List (is_word c.args.v.now) _ _ c.position.result c.position.ensures.ran (YieldsList-from_slice c.args.words.now cc) (λ x b q k. search (rules, tests)) in
    c.from_residual.ensures ∙ ap (option_map suc) (sym c.in_err-place.was ∙ placed) ∙ code_by_place _ _

pub returns : goal.returns
returns c =
    let placed : c.position.result ≡ position (is_word c.args.v.now) c.args.words.now =
    position_from_yields_List (is_word c.args.v.now) _ _ c.position.result c.position.ensures.ran (YieldsList-from_slice c.args.words.now cc) (λ x b q k. search (rules, tests)) in
    rw (add-one c.in_ok-place.place) (ap (option_map suc) (sym c.in_ok-place.was ∙ placed) ∙ code_by_place _ _)
