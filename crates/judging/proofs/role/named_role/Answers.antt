-- `judging::role::named_role` meets its contract.
use Rattle.std.proofs.Common.{◌∙◌}
use Rattle.blocks.specs.Keys.{BlockIDKey}
use Rattle.reading.proofs.SoughtLaws.{folded}
use Rattle.judging.proofs.FirstLaws.{key_is, named_empty, named_miss, named_bad, named_good}
use Rattle.judging.proofs.role.named_role.Goals as goal

pub returns-in_err-first : goal.returns-in_err-first
returns-in_err-first c = c.from_residual.ensures ∙ named_empty c.in_err-first.ensures

pub returns-then-not-same_key : goal.returns-then-not-same_key
returns-then-not-same_key c =
    let f = c.in_ok-first.ensures in
    named_miss f.entries (key_is _ BlockIDKey _ f.key folded.block_id c.same_key.ensures c.if-not-same_key.true)

pub returns-in_err-identity : goal.returns-in_err-identity
returns-in_err-identity c =
    let f = c.in_ok-first.ensures in
    let k = key_is _ BlockIDKey _ f.key folded.block_id c.same_key.ensures c.if-not-same_key.false in
    c.from_residual-in_err-identity.ensures ∙ named_bad f.entries k _ f.value c.in_err-identity.ensures

pub returns : goal.returns
returns c =
    let f = c.in_ok-first.ensures in
    let k = key_is _ BlockIDKey _ f.key folded.block_id c.same_key.ensures c.if-not-same_key.false in
    named_good f.entries k _ f.value c.in_ok-identity.ensures
