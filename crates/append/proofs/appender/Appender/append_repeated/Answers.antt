-- `append::appender::Appender::append_repeated` meets its contract.
use mathlib.Core.Path.{◌≡◌, refl, ap, ◌∙◌}
use Prim.Native.Nat.{ℕ, ◌+◌, ◌-◌}
use native.Mathlib.Omega.{arith}
use lib.ListN.{length, take, drop, replicate, length-take, length-drop, length-replicate}
use Rattle.append.proofs.Appending.{whole_appended, within, within_more}
use Rattle.append.proofs.appender.Appender.append_repeated.Goals as goal

pub returns : goal.returns
returns c =
    let all = c.args.self.now in
    let n = length-replicate c.args.count c.args.byte in
    let part : length (take (all.at + c.args.count - all.at) (drop all.at all.bytes.now)) ≡ c.args.count =
    simp (length-take, length-drop) (omega arith) in
    within_more (omega (arith, n)) (within (whole_appended (replicate c.args.count c.args.byte) all.bytes.now _ all.at _ _
    (c.fill.ensures.after (λ y e. e) ∙ ap (λ (k : ℕ). replicate k c.args.byte) part) (omega (arith, n)) (omega (arith, n)) (omega arith)) refl)
