-- `writer::file::file_length` meets its contract.
use mathlib.Core.Path.{◌∙◌}
use native.Mathlib.Omega.{arith}
use lib.ListN.{length-append}
use Rattle.writer.specs.Front.{titled, closed}
use Rattle.writer.proofs.CheckLaws.{over_limit, in_limit, title_long, title_short, length_refused, length_is}
use Rattle.writer.proofs.file.file_length.Goals as goal

pub returns-then-total-gt-FILE_LIMIT : goal.returns-then-total-gt-FILE_LIMIT
returns-then-total-gt-FILE_LIMIT c =
    λ rest e. let all = length-append (closed (titled c.args.first.now c.args.title.now)) rest in
    length_refused c.failure.ensures (over_limit _ _ (omega (arith, e, all, c.header_length.ensures.value, c.if-total-gt-FILE_LIMIT.true)))

pub returns-then-title-gt-TEXT_LIMIT : goal.returns-then-title-gt-TEXT_LIMIT
returns-then-title-gt-TEXT_LIMIT c =
    λ rest e. let all = length-append (closed (titled c.args.first.now c.args.title.now)) rest in
    length_refused c.failure-then-title-gt-TEXT_LIMIT.ensures
    (in_limit _ _ (omega (arith, e, all, c.header_length.ensures.value, c.if-total-gt-FILE_LIMIT.false)) ∙ title_long _ _ c.if-title-gt-TEXT_LIMIT.true)

pub returns : goal.returns
returns c =
    λ rest e. let all = length-append (closed (titled c.args.first.now c.args.title.now)) rest in
    length_is (omega (arith, e, all, c.header_length.ensures.value))
    (in_limit _ _ (omega (arith, e, all, c.header_length.ensures.value, c.if-total-gt-FILE_LIMIT.false))
    ∙ title_short _ _ (omega (arith, c.if-title-gt-TEXT_LIMIT.false)))
