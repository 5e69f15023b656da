-- `judging::block::block_at` meets its contract: its steps are those of `block_at`.
use Rattle.std.proofs.Common.{◌≡◌, ◌+◌, Some, refl, sym, ap, ◌∙◌, arith, rules}
use lib.ListN.{take}
use lib.Seq.{length-take-le}
use Rattle.blocks.specs.Judging.{rules_for}
use Rattle.header.proofs.FrameLaws.{header_sound, header_order, header_inside}
use Rattle.reading.specs.Entries.{entries_from}
use Rattle.judging.proofs.BlockSteps.{unframed, unparsed, unruled, ruled}
use Rattle.judging.proofs.block.block_at.Goals as goal
use Rattle.judging.proofs.block.block_at.Goals.{then-first+in_ok-rules, else-first}

pub returns-in_err-h : goal.returns-in_err-h
returns-in_err-h c = rw (sym (unframed _ c.args.rules c.args.first _ c.in_err-h.ensures)) (search rules)

pub slice_bounds-s-end : goal.slice_bounds-s-end
slice_bounds-s-end c =
    let x = header_sound (sym c.in_ok-h.ensures) in sym (length-take-le _ _ (omega (arith, header_inside x)))

pub overflow_add-from : goal.overflow_add-from
overflow_add-from c = let x = header_sound (sym c.in_ok-h.ensures) in omega (arith, header_order x, header_inside x)

pub returns-in_err-check_statements : goal.returns-in_err-check_statements
returns-in_err-check_statements c =
    rw (sym (unparsed _ c.args.rules c.args.first _ _ c.in_ok-h.ensures c.in_err-check_statements.ensures)) (search rules)

pub returns-in_err-rules : goal.returns-in_err-rules
returns-in_err-rules c =
    let s = take c.in_ok-h.h.right c.args.file.now in
    let none = sym c.in_err-rules.ensures.ok_part ∙ c.rules_of.ensures
    ∙ ap (λ b. rules_for c.args.rules b (entries_from s (c.in_ok-h.h.left + 1))) (sym c.if-first.true) in
    rw (sym (unruled _ c.args.rules c.args.first _ _ c.in_ok-h.ensures c.in_ok-check_statements.ensures none)) (search rules)

pub returns : goal.returns
returns c =
    let s = take c.in_ok-h.h.right c.args.file.now in
    let given : Some c.if-first.rules ≡ rules_for c.args.rules c.args.first (entries_from s (c.in_ok-h.h.left + 1)) =
    elim c.if-first.branch [
      | then-first+in_ok-rules w ↦
          rw (w.rules-is, w.if-first.true) (sym w.in_ok-rules.ensures.ok_part ∙ w.rules_of.ensures)
      | else-first w ↦ rw (w.rules-is, w.if-first.false) refl
    ] in
    ruled _ c.args.rules c.args.first _ _ c.in_ok-h.ensures c.in_ok-check_statements.ensures given c.judged.ensures
