-- `array::pixel::pixel_by` meets its contract: by the class, and floats by their width.
use mathlib.Core.Path.{sym, ap, subst, ◌∙◌}
use Prim.Native.Nat.{ℕ}
use native.Mathlib.Omega.{arith}
use Rattle.text.proofs.Signs.{gave}
use Rattle.raster.specs.Element.{half, signed_of}
use Rattle.raster.specs.Strided.{Width}
use Rattle.raster.specs.Types.{type_of}
use Rattle.raster.proofs.Tables.{type_width, type_width_some}
use Rattle.array.proofs.PixelValues.{half_fits, four_fits, pixel_unsigned, pixel_signed, pixel_narrow, pixel_wide}
use Rattle.array.proofs.pixel.pixel_by.Goals as goal

pub returns-in-Unsigned : goal.returns-in-Unsigned
returns-in-Unsigned c = pixel_unsigned _ _ (sym c.of.ensures ∙ c.in-Unsigned.is)

pub half_of-requires : goal.half_of-requires
half_of-requires c = subst Width (sym c.width_of-width.ensures) (type_width c.args.datatype)

pub signed_of-requires : goal.signed_of-requires
signed_of-requires c =
    half_fits (type_of c.args.datatype).width c.width_of-width.result c.half_of.result c.args.n (type_width c.args.datatype) (type_width_some c.args.datatype)
    c.width_of-width.ensures c.half_of.ensures c.requires

pub returns-in-Signed : goal.returns-in-Signed
returns-in-Signed c =
    let is = gave _ _ c.signed_of.type_inv (c.signed_of.ensures
    ∙ ap (λ (x : ℕ). signed_of x c.args.n) (c.half_of.ensures ∙ ap half c.width_of-width.ensures)) in
    pixel_signed _ _ _ (sym c.of.ensures ∙ c.in-Signed.is) is

pub overflow_cast-n : goal.overflow_cast-n
overflow_cast-n c =
    omega (arith, four_fits (type_of c.args.datatype).width c.width_of-width.result c.args.n c.width_of-width.ensures c.if-width-eq4.true c.requires)

pub returns-in-Float : goal.returns-in-Float
returns-in-Float c =
    pixel_narrow _ _ _ (sym c.of.ensures ∙ c.in-Float.is) (sym c.width_of-width.ensures ∙ c.if-width-eq4.true)
    c.f32_from_bits_with_nan.ensures

pub returns-in-Float-2 : goal.returns-in-Float-2
returns-in-Float-2 c =
    pixel_wide _ _ _ (sym c.of.ensures ∙ c.in-Float-2.is) (λ e. c.if-width-eq4.false (c.width_of-width.ensures ∙ e))
    c.f64_from_bits_with_nan.ensures
