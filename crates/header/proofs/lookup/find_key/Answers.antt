use Rattle.std.proofs.Common.{sym, ◌∙◌, arith}
use Rattle.header.proofs.LookupLaws.{first_end, first_malformed, first_hit, first_miss}
use Rattle.header.proofs.WalkSteps.{given, broken, ended}
use Rattle.header.proofs.lookup.find_key.Goals as goal

pub returns-in_err-t : goal.returns-in_err-t
returns-in_err-t c =
    let w = broken c.loop-next.invariant.bytes c.in-Some.ensures.steps c.in_err-t.ensures.value in
    c.from_residual.ensures ∙ sym (c.loop-next.invariant.found ∙ first_malformed _ _ _ w)

pub key_bytes-requires : goal.key_bytes-requires
key_bytes-requires c =
    let w = given c.loop-next.invariant.bytes c.in-Some.ensures.steps c.in_ok-t.ensures.value in
    (w.key_order, omega arith)

pub returns-then-same_key : goal.returns-then-same_key
returns-then-same_key c =
    let w = given c.loop-next.invariant.bytes c.in-Some.ensures.steps c.in_ok-t.ensures.value in
    sym (c.loop-next.invariant.found
    ∙ first_hit _ _ _ _ w.here _ c.key_bytes.ensures (sym c.same_key.ensures ∙ c.if-same_key.true))

pub loop-next-preserved : goal.loop-next-preserved
loop-next-preserved c =
    let w = given c.loop-next.invariant.bytes c.in-Some.ensures.steps c.in_ok-t.ensures.value in
    let on = first_miss _ _ _ _ w.here _ c.key_bytes.ensures (sym c.same_key.ensures ∙ c.if-same_key.false) in
    record { bytes = w.bytes; found = rw w.place (c.loop-next.invariant.found ∙ on) }

pub returns : goal.returns
returns c =
    let w = ended c.loop-next.invariant.bytes c.in-None.ensures.steps in
    sym (c.loop-next.invariant.found ∙ first_end _ _ _ w)
