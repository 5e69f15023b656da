-- `writer::heading::put_quoted` meets its contract.
use mathlib.Core.Path.{◌≡◌, refl}
use native.Mathlib.Omega.{arith}
use Prim.Native.Nat.{◌+◌, ◌-◌}
use lib.ListN.{length}
use Rattle.text.specs.Text.{quoted_text}
use Rattle.append.proofs.Appending.{part_appended, within}
use Rattle.writer.proofs.heading.put_quoted.Goals as goal

pub overflow_add-out : goal.overflow_add-out
overflow_add-out c = omega (arith, c.requires.room, c.write_quoted-n.ensures.value)

pub returns : goal.returns
returns c =
    let all = c.args.out.now in
    let next : all.at + c.write_quoted-n.result ≡ all.at + length (quoted_text c.args.title.now) = omega (arith, c.write_quoted-n.ensures.value) in
    within (part_appended (quoted_text c.args.title.now) all.bytes.now _ all.at (length all.bytes.now - all.at) _ c.write_quoted-n.ensures.out_after
    (omega (arith, c.requires.room)) next (omega (arith, c.requires.room, next))) refl
