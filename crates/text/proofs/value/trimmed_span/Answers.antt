-- `text::value::trimmed_span` meets its contract, by the first visible byte.
use mathlib.Core.Path.{sym, ap, ◌∙◌}
use Prim.Native.Nat.{ℕ, ◌-◌}
use native.Mathlib.Omega.{arith}
use Rattle.text.proofs.Trims.{trimmed_empty, trimmed_some, first_before_end}
use Rattle.text.proofs.value.trimmed_span.Goals as goal

pub overflow_sub-result : goal.overflow_sub-result
overflow_sub-result c =
    let e = first_before_end _ _ (sym c.find_visible.ensures ∙ c.in-Some.is) in
    omega (arith, c.trimmed_end.ensures)

pub returns-in-None : goal.returns-in-None
returns-in-None c = sym (trimmed_empty _ (sym c.find_visible.ensures ∙ c.in-None.is))

pub returns-in-Some : goal.returns-in-Some
returns-in-Some c =
    sym (trimmed_some _ _ (sym c.find_visible.ensures ∙ c.in-Some.is)
    ∙ ap (λ (n : ℕ). record { offset = c.in-Some.offset; length = n - c.in-Some.offset }) (sym c.trimmed_end.ensures))
