-- `judging::rules::second_count` meets its contract.
use Rattle.std.proofs.Common.{◌∙◌}
use Rattle.blocks.specs.Keys.{DataBlocksKey}
use Rattle.reading.proofs.SoughtLaws.{folded}
use Rattle.judging.proofs.FirstLaws.{key_is, second_empty, second_hit, second_miss}
use Rattle.judging.proofs.rules.second_count.Goals as goal

pub returns-in_err-second : goal.returns-in_err-second
returns-in_err-second c = c.from_residual.ensures ∙ second_empty c.in_err-second.ensures

pub returns-then-same_key : goal.returns-then-same_key
returns-then-same_key c =
    let f = c.in_ok-second.ensures in
    second_hit f.entries (key_is _ DataBlocksKey _ f.key folded.data_blocks c.same_key.ensures c.if-same_key.true) _ f.value c.asked_for.ensures

pub returns-else-same_key : goal.returns-else-same_key
returns-else-same_key c =
    let f = c.in_ok-second.ensures in
    second_miss f.entries (key_is _ DataBlocksKey _ f.key folded.data_blocks c.same_key.ensures c.if-same_key.false)
