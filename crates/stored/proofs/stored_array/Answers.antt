-- `stored::stored_array` meets its contract.
use mathlib.Core.Path.{sym, ap, ◌∙◌}
use native.Mathlib.Omega.{arith}
use Rattle.scan.proofs.Exits.{exits}
use Rattle.keyword.specs.Viewing.{view_at, viewed_outcome}
use Rattle.delivery.proofs.Planes.{octets_all}
use Rattle.array.proofs.ReadLaws.{row_inside, array_valid}
use Rattle.stored.proofs.Laws.{unseen, undescribed, with_description, delivers}
use Rattle.stored.proofs.stored_array.Goals as goal

pub data_of-requires : goal.data_of-requires
data_of-requires c =
    row_inside _ _ _ (sym (ap (viewed_outcome _) c.in_ok-b.was) ∙ c.view.ensures)

pub overflow_add-b : goal.overflow_add-b
overflow_add-b c =
    omega (arith, row_inside _ _ _ (sym (ap (viewed_outcome _) c.in_ok-b.was) ∙ c.view.ensures))

pub stored_described-requires : goal.stored_described-requires
stored_described-requires c =
    array_valid _ _ _ (sym (ap (viewed_outcome _) c.in_ok-b.was) ∙ c.view.ensures)
    (sym c.in_ok-d.was ∙ c.describe_block.ensures) c.data_of.ensures

pub returns-in_err-b : goal.returns-in_err-b
returns-in_err-b c =
    let same = exits _ c.from_residual.ensures.1 in
    let both = unseen _ _ _ (sym (ap (viewed_outcome _) c.in_err-b.was) ∙ c.view.ensures) in
    record { result_value = same ∙ both.0; delivers = rw same both.1 }

pub returns-in_err-d : goal.returns-in_err-d
returns-in_err-d c =
    let same = exits _ c.from_residual-in_err-d.ensures.1 in
    let both = undescribed _ _ _ _ (sym (ap (viewed_outcome _) c.in_ok-b.was) ∙ c.view.ensures)
    (sym c.in_err-d.was ∙ c.describe_block.ensures) in
    record { result_value = same ∙ both.0; delivers = rw same both.1 }

pub returns : goal.returns
unfolding view_at
returns c =
    let seen = sym (ap (viewed_outcome _) c.in_ok-b.was) ∙ c.view.ensures in
    let known = sym c.in_ok-d.was ∙ c.describe_block.ensures in
    record {
      result_value = c.stored_described.ensures ∙ with_description _ _ _ _ seen _ known;
      delivers = delivers c.args.file.now c.args.block c.args.asked _ seen _ known (octets_all c.args.file.now (λ k. (c.type_inv.file k).fits)) c.stored_described.result c.stored_described.ensures;
    }
