use Rattle.std.proofs.Common.{sym, ◌∙◌, arith}
use Rattle.header.proofs.WalkSteps.{given, broken, ended}
use Rattle.reading.proofs.CountingLaws.{counting_end, counting_malformed, counting_stops, counting_hit, counting_miss}
use Rattle.reading.proofs.keys.find_counting.Goals as goal

pub returns-in_err-t : goal.returns-in_err-t
returns-in_err-t c =
    let w = broken c.loop-next.invariant.bytes c.in-Some.ensures.steps c.in_err-t.ensures.value in
    c.from_residual.ensures ∙ sym (c.loop-next.invariant.found ∙ counting_malformed _ _ _ w)

pub key_bytes-key-requires : goal.key_bytes-key-requires
key_bytes-key-requires c =
    let w = given c.loop-next.invariant.bytes c.in-Some.ensures.steps c.in_ok-t.ensures.value in
    (w.key_order, omega arith)

pub returns-then-not-is_edf_key : goal.returns-then-not-is_edf_key
returns-then-not-is_edf_key c =
    let w = given c.loop-next.invariant.bytes c.in-Some.ensures.steps c.in_ok-t.ensures.value in
    sym (c.loop-next.invariant.found
    ∙ counting_stops _ _ _ _ w.here _ c.key_bytes-key.ensures (sym c.is_edf_key.ensures ∙ c.if-not-is_edf_key.true))

pub returns-then-same_key : goal.returns-then-same_key
returns-then-same_key c =
    let w = given c.loop-next.invariant.bytes c.in-Some.ensures.steps c.in_ok-t.ensures.value in
    sym (c.loop-next.invariant.found
    ∙ counting_hit _ _ _ _ w.here _ c.key_bytes-key.ensures (sym c.is_edf_key.ensures ∙ c.if-not-is_edf_key.false)
    (sym c.same_key.ensures ∙ c.if-same_key.true))

pub loop-next-preserved : goal.loop-next-preserved
loop-next-preserved c =
    let w = given c.loop-next.invariant.bytes c.in-Some.ensures.steps c.in_ok-t.ensures.value in
    let on = counting_miss _ _ _ _ w.here _ c.key_bytes-key.ensures (sym c.is_edf_key.ensures ∙ c.if-not-is_edf_key.false)
    (sym c.same_key.ensures ∙ c.if-same_key.false) in
    record { bytes = w.bytes; found = rw w.place (c.loop-next.invariant.found ∙ on) }

pub returns : goal.returns
returns c =
    let w = ended c.loop-next.invariant.bytes c.in-None.ensures.steps in
    sym (c.loop-next.invariant.found ∙ counting_end _ _ _ w)
