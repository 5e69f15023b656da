-- `judging::block::judged` meets its contract: its checks are those of `judged`.
use Rattle.std.proofs.Common.{List, ℕ, Err, sym, ap, ◌∙◌, not}
use Rattle.blocks.specs.Counting.{counting_in}
use Rattle.header.specs.Entries.{value_in}
use Rattle.reading.specs.Entries.{entries_from}
use Rattle.reading.proofs.SoughtLaws.{folded}
use Rattle.judging.proofs.BlockSteps.{Allowed, none_lent, other_length, kept_length, names_file, wrong_length, too_far, accepted}
use Rattle.judging.proofs.block.judged.Goals as goal
use Rattle.judging.proofs.block.judged.Goals.{in-Other, in-Kept}

pub returns-then-is_some : goal.returns-then-is_some
returns-then-is_some c =
    let es = entries_from c.args.s.now c.args.from in
    let role = sym c.in_ok-role.ensures.ok_part ∙ c.role_of.ensures in
    let size = sym c.in_ok-size.ensures.ok_part ∙ c.data_size.ensures in
    let allowed : Allowed c.args.rules es c.args.header c.header_size.ensures c.match-header_size.allowed =
    elim c.match-header_size.branch [
      | in-Other w ↦ rw w.allowed-is (other_length _ _ _ c.header_size.ensures w.in-Other.is)
      | in-Kept w ↦ rw w.allowed-is (kept_length _ _ _ c.header_size.ensures w.in-Kept.is w.is_multiple-allowed.ensures)
    ] in
    let named = none_lent c.value_of_kind.result (c.value_of_kind.ensures
    ∙ ap (λ (k : List ℕ). value_in k (counting_in c.args.rules.kind es)) folded.file_name) in
    let some = sym c.is_some.ensures ∙ c.if-is_some.true in
    ap Err c.error_at-then-is_some.ensures ∙ names_file _ _ _ _ _ _ role size allowed (named ∙ ap not some)

pub returns-then-not-allowed : goal.returns-then-not-allowed
returns-then-not-allowed c =
    let es = entries_from c.args.s.now c.args.from in
    let role = sym c.in_ok-role.ensures.ok_part ∙ c.role_of.ensures in
    let size = sym c.in_ok-size.ensures.ok_part ∙ c.data_size.ensures in
    let allowed : Allowed c.args.rules es c.args.header c.header_size.ensures c.match-header_size.allowed =
    elim c.match-header_size.branch [
      | in-Other w ↦ rw w.allowed-is (other_length _ _ _ c.header_size.ensures w.in-Other.is)
      | in-Kept w ↦ rw w.allowed-is (kept_length _ _ _ c.header_size.ensures w.in-Kept.is w.is_multiple-allowed.ensures)
    ] in
    let named = none_lent c.value_of_kind.result (c.value_of_kind.ensures
    ∙ ap (λ (k : List ℕ). value_in k (counting_in c.args.rules.kind es)) folded.file_name) in
    let some = sym c.is_some.ensures ∙ c.if-is_some.false in
    ap Err c.error_at-then-not-allowed.ensures ∙ wrong_length _ _ _ _ _ _ role size allowed (named ∙ ap not some) c.if-not-allowed.true

pub returns-then-not-fits : goal.returns-then-not-fits
returns-then-not-fits c =
    let es = entries_from c.args.s.now c.args.from in
    let role = sym c.in_ok-role.ensures.ok_part ∙ c.role_of.ensures in
    let size = sym c.in_ok-size.ensures.ok_part ∙ c.data_size.ensures in
    let allowed : Allowed c.args.rules es c.args.header c.header_size.ensures c.match-header_size.allowed =
    elim c.match-header_size.branch [
      | in-Other w ↦ rw w.allowed-is (other_length _ _ _ c.header_size.ensures w.in-Other.is)
      | in-Kept w ↦ rw w.allowed-is (kept_length _ _ _ c.header_size.ensures w.in-Kept.is w.is_multiple-allowed.ensures)
    ] in
    let named = none_lent c.value_of_kind.result (c.value_of_kind.ensures
    ∙ ap (λ (k : List ℕ). value_in k (counting_in c.args.rules.kind es)) folded.file_name) in
    let some = sym c.is_some.ensures ∙ c.if-is_some.false in
    ap Err c.error_at-then-not-fits.ensures
    ∙ too_far _ _ _ _ _ _ role size allowed (named ∙ ap not some) c.if-not-allowed.false (sym c.fits.ensures ∙ c.if-not-fits.true)

pub returns : goal.returns
returns c =
    let es = entries_from c.args.s.now c.args.from in
    let role = sym c.in_ok-role.ensures.ok_part ∙ c.role_of.ensures in
    let size = sym c.in_ok-size.ensures.ok_part ∙ c.data_size.ensures in
    let allowed : Allowed c.args.rules es c.args.header c.header_size.ensures c.match-header_size.allowed =
    elim c.match-header_size.branch [
      | in-Other w ↦ rw w.allowed-is (other_length _ _ _ c.header_size.ensures w.in-Other.is)
      | in-Kept w ↦ rw w.allowed-is (kept_length _ _ _ c.header_size.ensures w.in-Kept.is w.is_multiple-allowed.ensures)
    ] in
    let named = none_lent c.value_of_kind.result (c.value_of_kind.ensures
    ∙ ap (λ (k : List ℕ). value_in k (counting_in c.args.rules.kind es)) folded.file_name) in
    let some = sym c.is_some.ensures ∙ c.if-is_some.false in
    accepted _ _ _ _ _ _ role size allowed (named ∙ ap not some) c.if-not-allowed.false (sym c.fits.ensures ∙ c.if-not-fits.false) c.row_of.ensures
