use Rattle.std.proofs.Common.{◌≡◌, sym, ap, ◌∙◌, arith, rules}
use Rattle.std.specs.Result.{result_ok}
use Rattle.header.proofs.Walk.{passed_start, passed_more, passed_malformed, passed_end}
use Rattle.header.proofs.WalkSteps.{given, broken, ended}
use Rattle.header.proofs.check.check_with.Goals as goal

pub loop-next-init : goal.loop-next-init
loop-next-init c =
    let at : c.into_iter-next-iterator.result.at ≡ c.args.from = search rules in
    record { bytes = search rules; passed = rw at (passed_start _ _ _ _) }

pub returns-in_default : goal.returns-in_default
returns-in_default c =
    let w = broken c.loop-next.invariant.bytes c.in-Some.ensures.steps (sym (ap result_ok c.in_default.is)) in
    rw (passed_malformed _ _ _ _ _ _ c.loop-next.invariant.passed _ w) (search rules)

pub still_short-short-requires : goal.still_short-short-requires
still_short-short-requires c =
    let w = given c.loop-next.invariant.bytes c.in-Some.ensures.steps (sym (ap result_ok c.in-Ok.is)) in
    (w.key_order, w.value_order, w.inside)

pub still_distinct-distinct-requires : goal.still_distinct-distinct-requires
still_distinct-distinct-requires c =
    let w = given c.loop-next.invariant.bytes c.in-Some.ensures.steps (sym (ap result_ok c.in-Ok.is)) in
    (w.key_order, omega arith)

pub loop-next-preserved : goal.loop-next-preserved
loop-next-preserved c =
    let w = given c.loop-next.invariant.bytes c.in-Some.ensures.steps (sym (ap result_ok c.in-Ok.is)) in
    record {
      bytes = w.bytes;
      passed = rw w.place (passed_more _ _ _ _ _ _ c.loop-next.invariant.passed _ w.here _ c.still_distinct-distinct.ensures c.still_short-short.ensures);
    }

pub returns : goal.returns
returns c =
    let w = ended c.loop-next.invariant.bytes c.in-None.ensures.steps in
    c.answer.ensures ∙ sym (passed_end _ _ _ _ _ _ c.loop-next.invariant.passed _ w)
