-- `text::decimal::put_digits` meets its contract. The digits of what is left, before those that stand behind place i, are the digits of n.
use mathlib.Core.Path.{◌≡◌}
use mathlib.Core.List.{[]}
use Prim.Native.Nat.{◌+◌, ◌^◌, ◌<◌, ◌≤◌}
use lib.ListN.{length, take, drop}
use Rattle.text.specs.Decimal.{digits_of}
use Rattle.text.proofs.decimal.put_digits.Given as goal

abbrev pub invariant-loop-rest : goal.invariant-loop-rest
invariant-loop-rest l =
    (0 < l.i) × (l.i ≤ 19) × (length l.out ≡ 20) × (l.rest < 10 ^ l.i) × (digits_of l.i l.rest (drop (l.i + 1) l.out) ≡ digits_of 19 l.n [])
    × (take l.i l.out ≡ take l.i l.initial.out)

abbrev pub decreases-loop-rest : goal.decreases-loop-rest
decreases-loop-rest l = l.i
