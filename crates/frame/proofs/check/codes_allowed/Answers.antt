-- `frame::check::codes_allowed` meets its contract.
use mathlib.Core.Path.{◌≡◌, sym, ap, ◌∙◌}
use mathlib.Core.Bool.{◌&&◌}
use mir.Syntax.{w64}
use mir.Val.{SFits, to_z, of_z}
use mir.ValLaws.{to_z-of_z}
use borrow.Author.Rules.{rules}
use Rattle.frame.specs.File.{within, positive_memory}
use Rattle.array.specs.Delivery.{is_order}
use Rattle.frame.proofs.FrameChecks.{and_then, and_else, memory_decides}
use Rattle.frame.proofs.check.codes_allowed.Goals as goal
use Rattle.frame.proofs.check.codes_allowed.Goals.{then-within, else-within, then-within-2, else-within-2}

pub returns-then-within-3 : goal.returns-then-within-3
unfolding is_order
returns-then-within-3 c =
    let two : c.if-within.value ≡ (within 1 10 c.args.f.datatype && is_order c.args.f.byteorder) =
    elim c.if-within.branch [
      | then-within w ↦ w.value-is ∙ w.within-then-within.ensures ∙ and_then _ (sym c.within.ensures ∙ w.if-within.true)
      | else-within w ↦ w.value-is ∙ w.if-within.false ∙ and_else _ (sym c.within.ensures ∙ w.if-within.false)
    ] in
    let three : c.if-within-2.value ≡ (within 1 10 c.args.f.datatype && is_order c.args.f.byteorder && within 1 2 c.args.f.instance) =
    elim c.if-within-2.branch [
      | then-within-2 w ↦ w.value-is ∙ w.within-then-within-2.ensures ∙ and_then _ (sym two ∙ w.if-within-2.true)
      | else-within-2 w ↦ w.value-is ∙ w.if-within-2.false ∙ and_else _ (sym two ∙ w.if-within-2.false)
    ] in
    let memory-fits : SFits w64 c.args.f.memory = search rules in
    memory_decides (to_z w64 (of_z w64 c.args.f.memory)) ∙ ap positive_memory (to_z-of_z w64 _ memory-fits) ∙ and_then _ (sym three ∙ c.if-within-3.true)

pub returns-else-within-3 : goal.returns-else-within-3
unfolding is_order
returns-else-within-3 c =
    let two : c.if-within.value ≡ (within 1 10 c.args.f.datatype && is_order c.args.f.byteorder) =
    elim c.if-within.branch [
      | then-within w ↦ w.value-is ∙ w.within-then-within.ensures ∙ and_then _ (sym c.within.ensures ∙ w.if-within.true)
      | else-within w ↦ w.value-is ∙ w.if-within.false ∙ and_else _ (sym c.within.ensures ∙ w.if-within.false)
    ] in
    let three : c.if-within-2.value ≡ (within 1 10 c.args.f.datatype && is_order c.args.f.byteorder && within 1 2 c.args.f.instance) =
    elim c.if-within-2.branch [
      | then-within-2 w ↦ w.value-is ∙ w.within-then-within-2.ensures ∙ and_then _ (sym two ∙ w.if-within-2.true)
      | else-within-2 w ↦ w.value-is ∙ w.if-within-2.false ∙ and_else _ (sym two ∙ w.if-within-2.false)
    ] in
    c.if-within-3.false ∙ and_else _ (sym three ∙ c.if-within-3.false)
