-- `writer::heading::put_header` meets its contract.
use mathlib.Core.Path.{◌≡◌, ap, ◌∙◌}
use native.Mathlib.Omega.{arith}
use Prim.Native.Nat.{ℕ, ◌+◌}
use lib.ListN.{length}
use Rattle.append.proofs.Appending.{within_then, within_is, within_exact}
use Rattle.rendering.specs.Render.{padding}
use Rattle.writer.specs.Front.{titled}
use Rattle.writer.proofs.HeaderLaws.{titled_is, titled-length, closed_is, closed-length}
use Rattle.writer.proofs.heading.put_header.Goals as goal

pub append-requires : goal.append-requires
append-requires c =
    let whole = titled c.args.first.now c.args.title.now in
    omega (arith, c.requires.room, titled-length c.args.first.now c.args.title.now, closed-length whole)

pub put_quoted-requires-clause-room : goal.put_quoted-requires-clause-room
put_quoted-requires-clause-room c =
    let whole = titled c.args.first.now c.args.title.now in
    omega (arith, c.requires.room, titled-length c.args.first.now c.args.title.now, closed-length whole, c.append.ensures.appended.next_is, c.append.ensures.same_length)

pub append-requires-2 : goal.append-requires-2
append-requires-2 c =
    let whole = titled c.args.first.now c.args.title.now in
    omega (arith, c.requires.room, titled-length c.args.first.now c.args.title.now, closed-length whole, c.append.ensures.appended.next_is, c.append.ensures.same_length, c.put_quoted.ensures.appended.next_is, c.put_quoted.ensures.same_length)

pub append_repeated-requires : goal.append_repeated-requires
append_repeated-requires c =
    let whole = titled c.args.first.now c.args.title.now in
    let text = within_is (titled_is c.args.first.now c.args.title.now) (within_then (within_then c.append.ensures c.put_quoted.ensures) c.append-2.ensures) in
    let end : c.append-2.new.self.at ≡ length whole = omega (arith, text.appended.next_is, c.requires.at_front) in
    omega (arith, c.requires.room, closed-length whole, text.same_length, end, c.filling.ensures, ap (λ (n : ℕ). padding (n + 4)) end)

pub append-requires-3 : goal.append-requires-3
append-requires-3 c =
    let whole = titled c.args.first.now c.args.title.now in
    let text = within_is (titled_is c.args.first.now c.args.title.now) (within_then (within_then c.append.ensures c.put_quoted.ensures) c.append-2.ensures) in
    let end : c.append-2.new.self.at ≡ length whole = omega (arith, text.appended.next_is, c.requires.at_front) in
    omega (arith, c.requires.room, closed-length whole, text.same_length, end, c.filling.ensures, ap (λ (n : ℕ). padding (n + 4)) end, c.append_repeated.ensures.upper_bound, c.append_repeated.ensures.same_length)

pub returns : goal.returns
returns c =
    let whole = titled c.args.first.now c.args.title.now in
    let text = within_is (titled_is c.args.first.now c.args.title.now) (within_then (within_then c.append.ensures c.put_quoted.ensures) c.append-2.ensures) in
    let end : c.append-2.new.self.at ≡ length whole = omega (arith, text.appended.next_is, c.requires.at_front) in
    within_exact (within_is (closed_is whole c.filling.result (c.filling.ensures ∙ ap (λ (n : ℕ). padding (n + 4)) end))
    (within_then (within_then text c.append_repeated.ensures) c.append-3.ensures))
