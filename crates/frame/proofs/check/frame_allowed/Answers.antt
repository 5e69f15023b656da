-- `frame::check::frame_allowed` meets its contract.
use mathlib.Core.Path.{◌≡◌, sym, ap, ◌∙◌}
use mathlib.Core.Bool.{◌&&◌}
use Prim.Native.Nat.{ℕ}
use Rattle.text.specs.Text.{every}
use Rattle.description.specs.Limits.{dim_limit}
use Rattle.frame.specs.File.{within, frame_dims, frame_allowed}
use Rattle.frame.proofs.FrameChecks.{codes, and_then, and_else, every_is}
use Rattle.frame.proofs.check.frame_allowed.Goals as goal
use Rattle.frame.proofs.check.frame_allowed.Goals.{then-codes_allowed, else-codes_allowed, then-within, else-within}

pub returns-then-dims_allowed : goal.returns-then-dims_allowed
unfolding frame_allowed
returns-then-dims_allowed c =
    let two : c.if-codes_allowed.value ≡ (codes c.args.f && within 1 3 c.args.f.n) =
    elim c.if-codes_allowed.branch [
      | then-codes_allowed w ↦ w.value-is ∙ w.within.ensures ∙ and_then _ (sym c.codes_allowed.ensures ∙ w.if-codes_allowed.true)
      | else-codes_allowed w ↦ w.value-is ∙ w.if-codes_allowed.false ∙ and_else _ (sym c.codes_allowed.ensures ∙ w.if-codes_allowed.false)
    ] in
    let three : c.if-within.value ≡ (codes c.args.f && within 1 3 c.args.f.n && every (within 1 dim_limit) (frame_dims c.args.f)) =
    elim c.if-within.branch [
      | then-within w ↦ w.value-is ∙ every_is _ _ _ w.dims_allowed.ensures ∙ and_then _ (sym two ∙ w.if-within.true)
      | else-within w ↦ w.value-is ∙ w.if-within.false ∙ and_else _ (sym two ∙ w.if-within.false)
    ] in
    c.within-then-dims_allowed.ensures ∙ ap (λ (k : ℕ). within 1 k c.args.f.configuration) c.configurations.ensures
    ∙ and_then _ (sym three ∙ c.if-dims_allowed.true)

pub returns-else-dims_allowed : goal.returns-else-dims_allowed
unfolding frame_allowed
returns-else-dims_allowed c =
    let two : c.if-codes_allowed.value ≡ (codes c.args.f && within 1 3 c.args.f.n) =
    elim c.if-codes_allowed.branch [
      | then-codes_allowed w ↦ w.value-is ∙ w.within.ensures ∙ and_then _ (sym c.codes_allowed.ensures ∙ w.if-codes_allowed.true)
      | else-codes_allowed w ↦ w.value-is ∙ w.if-codes_allowed.false ∙ and_else _ (sym c.codes_allowed.ensures ∙ w.if-codes_allowed.false)
    ] in
    let three : c.if-within.value ≡ (codes c.args.f && within 1 3 c.args.f.n && every (within 1 dim_limit) (frame_dims c.args.f)) =
    elim c.if-within.branch [
      | then-within w ↦ w.value-is ∙ every_is _ _ _ w.dims_allowed.ensures ∙ and_then _ (sym two ∙ w.if-within.true)
      | else-within w ↦ w.value-is ∙ w.if-within.false ∙ and_else _ (sym two ∙ w.if-within.false)
    ] in
    c.if-dims_allowed.false ∙ and_else _ (sym three ∙ c.if-dims_allowed.false)
