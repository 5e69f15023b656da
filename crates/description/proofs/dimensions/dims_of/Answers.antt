-- `description::dimensions::dims_of` meets its contract.
use Rattle.std.specs.Prelude.{Ok}
use mathlib.Core.Path.{sym, ap, ◌∙◌}
use Rattle.scan.proofs.Exits.{exits}
use Rattle.keyword.specs.Viewing.{value_bytes}
use Rattle.description.specs.Answers.{measured_outcome}
use Rattle.description.specs.Parts.{dim_read}
use Rattle.description.proofs.DimLaws.{no_more, too_many, last_dim, bad_dim, next_dim}
use Rattle.description.proofs.dimensions.dims_of.Goals as goal

pub returns-in_err-dim1 : goal.returns-in_err-dim1
returns-in_err-dim1 c =
    ap measured_outcome (exits _ c.from_residual.ensures.1)
    ∙ bad_dim _ _ _ _ (sym c.in_err-dim1.was ∙ c.dim_of.ensures)

pub returns-in_default : goal.returns-in_default
returns-in_default c =
    last_dim _ _ _ (sym (ap Ok c.in_default.is) ∙ sym c.in_ok-dim1.was ∙ c.dim_of.ensures)

pub returns-in_err-dim2 : goal.returns-in_err-dim2
returns-in_err-dim2 c =
    ap measured_outcome (exits _ c.from_residual-in_err-dim2.ensures.1)
    ∙ next_dim _ _ _ _ (sym (ap Ok c.in-Some.is) ∙ sym c.in_ok-dim1.was ∙ c.dim_of.ensures)
    (bad_dim _ _ _ _ (sym c.in_err-dim2.was ∙ c.dim_of-2.ensures ∙ ap dim_read c.look_up.ensures.result_value_2))

pub returns-in_default-2 : goal.returns-in_default-2
returns-in_default-2 c =
    next_dim _ _ _ _ (sym (ap Ok c.in-Some.is) ∙ sym c.in_ok-dim1.was ∙ c.dim_of.ensures)
    (last_dim _ _ _ (sym (ap Ok c.in_default-2.is) ∙ sym c.in_ok-dim2.was ∙ c.dim_of-2.ensures ∙ ap dim_read c.look_up.ensures.result_value_2))

pub returns-in_err-dim3 : goal.returns-in_err-dim3
returns-in_err-dim3 c =
    ap measured_outcome (exits _ c.from_residual-in_err-dim3.ensures.1)
    ∙ next_dim _ _ _ _ (sym (ap Ok c.in-Some.is) ∙ sym c.in_ok-dim1.was ∙ c.dim_of.ensures)
    (next_dim _ _ _ _ (sym (ap Ok c.in-Some-2.is) ∙ sym c.in_ok-dim2.was ∙ c.dim_of-2.ensures ∙ ap dim_read c.look_up.ensures.result_value_2)
    (bad_dim _ _ _ _ (sym c.in_err-dim3.was ∙ c.dim_of-3.ensures ∙ ap dim_read c.look_up-2.ensures.result_value_2)))

pub returns-in_default-3 : goal.returns-in_default-3
returns-in_default-3 c =
    next_dim _ _ _ _ (sym (ap Ok c.in-Some.is) ∙ sym c.in_ok-dim1.was ∙ c.dim_of.ensures)
    (next_dim _ _ _ _ (sym (ap Ok c.in-Some-2.is) ∙ sym c.in_ok-dim2.was ∙ c.dim_of-2.ensures ∙ ap dim_read c.look_up.ensures.result_value_2)
    (last_dim _ _ _ (sym (ap Ok c.in_default-3.is) ∙ sym c.in_ok-dim3.was ∙ c.dim_of-3.ensures ∙ ap dim_read c.look_up-2.ensures.result_value_2)))

pub returns-in-Some-look_up : goal.returns-in-Some-look_up
returns-in-Some-look_up c =
    next_dim _ _ _ _ (sym (ap Ok c.in-Some.is) ∙ sym c.in_ok-dim1.was ∙ c.dim_of.ensures)
    (next_dim _ _ _ _ (sym (ap Ok c.in-Some-2.is) ∙ sym c.in_ok-dim2.was ∙ c.dim_of-2.ensures ∙ ap dim_read c.look_up.ensures.result_value_2)
    (next_dim _ _ _ _ (sym (ap Ok c.in-Some-3.is) ∙ sym c.in_ok-dim3.was ∙ c.dim_of-3.ensures ∙ ap dim_read c.look_up-2.ensures.result_value_2)
    (too_many _ (sym c.look_up-3.ensures.result_value_2 ∙ ap (value_bytes _) c.in-Some-look_up.is))))

pub returns-in-None : goal.returns-in-None
returns-in-None c =
    next_dim _ _ _ _ (sym (ap Ok c.in-Some.is) ∙ sym c.in_ok-dim1.was ∙ c.dim_of.ensures)
    (next_dim _ _ _ _ (sym (ap Ok c.in-Some-2.is) ∙ sym c.in_ok-dim2.was ∙ c.dim_of-2.ensures ∙ ap dim_read c.look_up.ensures.result_value_2)
    (next_dim _ _ _ _ (sym (ap Ok c.in-Some-3.is) ∙ sym c.in_ok-dim3.was ∙ c.dim_of-3.ensures ∙ ap dim_read c.look_up-2.ensures.result_value_2)
    (no_more _ _ (sym c.look_up-3.ensures.result_value_2 ∙ ap (value_bytes _) c.in-None.is))))
