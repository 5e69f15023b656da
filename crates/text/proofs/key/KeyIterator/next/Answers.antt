use Rattle.std.proofs.Common.{◌≡◌, ◌+◌, sym, ap, arith, rules, drop, length}
use Rattle.text.specs.Key.{key_of}
use Rattle.text.proofs.KeySteps.{key_from, key_none, key_next, visible_inside}
use Rattle.text.proofs.key.KeyIterator.next.Goals as goal

pub returns-in_err-i-clause-steps : goal.returns-in_err-i-clause-steps
unfolding key_from
returns-in_err-i-clause-steps c =
    let s = c.args.self.now in
    let e = key_none s.bytes.now s.at (sym c.in_err-i.ensures) in
    rw c.from_residual.ensures (e, e)

pub overflow_add-self : goal.overflow_add-self
overflow_add-self c =
    let s = c.args.self.now in
    let inside = visible_inside s.bytes.now s.at c.in_ok-i.i (sym c.in_ok-i.ensures) in
    search (rules, inside)

pub bounds-self-i : goal.bounds-self-i
bounds-self-i c =
    let s = c.args.self.now in
    (visible_inside s.bytes.now s.at c.in_ok-i.i (sym c.in_ok-i.ensures)).1

pub returns-clause-steps : goal.returns-clause-steps
unfolding key_from
returns-clause-steps c =
    let s = c.args.self.now in
    rw c.fold_byte.ensures (key_next s.bytes.now s.at c.in_ok-i.i (sym c.in_ok-i.ensures))

pub returns-clause-goes : goal.returns-clause-goes
unfolding key_from
returns-clause-goes c =
    let s = c.args.self.now in
    let e = key_next s.bytes.now s.at c.in_ok-i.i (sym c.in_ok-i.ensures) in
    let n : length (key_of (drop s.at s.bytes.now)) ≡ length (key_of (drop (c.in_ok-i.i + 1) s.bytes.now)) + 1 = omega (arith, ap length e) in
    search (rules, n)
