-- `conversion::conversion::shift_of` meets its contract.
use mathlib.Core.Path.{refl, ap, ◌∙◌}
use mathlib.Core.Bool.{cond}
use Prim.Native.Nat.{ℕ, ◌-◌, ◌/◌, ◌^◌, min}
use lib.IntN.{ℤ, pos, nat_abs}
use lib.Signed.{lt_z}
use mir.Syntax.{w64}
use mir.ValLaws.{to_z-of_z}
use Rattle.raster.proofs.Tables.{width_some}
use Rattle.conversion.proofs.Limits.{shifts_by}
use Rattle.conversion.proofs.conversion.shift_of.Goals as goal

pub returns : goal.returns
returns c =
    let h = width_some c.requires in
    let e = to_z-of_z w64 c.args.offset c.ranges.offset in
    let f = cond c.args.signed (2 ^ 63) 0 in
    shifts_by c.args.w h.0 h.1 c.args.signed c.args.offset _ _ _ _ c.weight_of-weight.ensures refl (c.min.ensures ∙ ap (λ (x : ℕ). min x (18446744073709551615 / c.weight_of-weight.result)) (c.unsigned_abs.ensures.value ∙ ap nat_abs e))
    (c.inverted_bits.ensures ∙ ap (λ (z : ℤ). cond (lt_z z (pos 0)) (18446744073709551615 - f) f) e)
