-- A conversion makes of every element what is to be delivered.
use mathlib.Core.Logic.{◌⊎◌, ⊎_elim}
use mathlib.Core.Path.{◌≡◌, refl, sym, ap, subst, ◌∙◌}
use mathlib.Core.Bool.{Bool, true, false, cond, not}
use mathlib.Core.List.{List, [], ◌∷◌, reverse-reverse}
use Prim.Native.Nat.{ℕ, ◌^◌, ◌<◌, ◌≤◌}
use native.Mathlib.Omega.{arith}
use borrow.Author.Tests.{eq-eqb, ne_eqb}
use lib.Dec.{eqb}
use lib.IntN.{ℤ, pos}
use lib.ListN.{length}
use mir.Syntax.{w64}
use mir.Val.{SFits, to_z, of_z}
use mir.ValLaws.{to_z-of_z}
use Rattle.raster.specs.Bytes.{number_of, bytes_of}
use Rattle.raster.specs.Element.{offset_bits, element_bits, element_bytes}
use Rattle.raster.specs.Strided.{Octets, turned, Width}
use Rattle.raster.specs.declared.types.Class.{Class}
use Rattle.raster.specs.declared.types.Class.TheVariants.{Unsigned as unsigned, Signed as signed, Float as float}
use Rattle.raster.specs.Types.{class_number, DataType}
use Rattle.raster.proofs.RoundTrip.{number_bound, element_moved, float_offset}
use Rattle.raster.proofs.Tables.{width_some, is_float_lem}
use Rattle.shift.specs.Shifting.{integer, Shifts, shifted_bytes}
use Rattle.shift.specs.declared.shift.Shift.{Shift}
use Rattle.conversion.specs.Converting.{differ, made_by, Converts}
use Rattle.conversion.specs.declared.conversion.Way.{Way}
use Rattle.conversion.specs.declared.conversion.Way.TheVariants.{Kept, Reversed, Added}

twice : (order asked : Bool) (l : List ℕ) → turned (cond order (not asked) asked) l ≡ turned asked (turned order l)
twice true true l = sym (reverse-reverse l)
twice true false l = refl
twice false true l = refl
twice false false l = refl

-- Of one byte, or none, there is no order.
one_byte : (back : Bool) (l : List ℕ) → length l ≤ 1 → l ≡ turned back l
one_byte false l h = refl
one_byte true [] h = refl
one_byte true (b ∷ []) h = refl
one_byte true (b ∷ c ∷ l) h = absurd (omega arith)

integer_class : (class : Class) (n : ℕ) → n ≡ class_number class → (n ≡ 2 → ⊥) → class ≡ integer (eqb n 1)
integer_class unsigned n e h = sym (ap integer (ne_eqb n 1 (λ k. absurd (omega arith))))
integer_class signed n e h = sym (ap integer (eq-eqb n 1 e))
integer_class float n e h = absurd (h e)

module _ (t : DataType) (order asked w n : ℕ) (offset : ℤ) (s : Shift) (wide : w ≡ t.width) (width : Width t.width)
    (class : n ≡ class_number t.class) where
  -- The bytes moved, where the offset is 0 and where the class is float.
  moved : offset ≡ pos 0 → (l : List ℕ) → Octets l → length l ≡ t.width → turned (differ order asked) l ≡ element_bytes t order offset asked l
  moved z l h e =
      twice (eqb order 1) (eqb asked 1) l ∙ sym (element_moved t order asked l h e (width_some width).0)
      ∙ ap (λ (o : ℤ). element_bytes t order o asked l) (sym z)

  floats : n ≡ 2 → (l : List ℕ) → Octets l → length l ≡ t.width → turned (differ order asked) l ≡ element_bytes t order offset asked l
  floats f l h e =
      twice (eqb order 1) (eqb asked 1) l ∙ sym (element_moved t order asked l h e (width_some width).0)
      ∙ sym (float_offset t order offset asked l (is_float_lem t.class (sym class ∙ f)))

  -- The offset added.
  added : (n ≡ 2 → ⊥) → Shifts (integer (eqb n 1)) w offset s → (l : List ℕ) → Octets l → length l ≡ t.width
      → shifted_bytes w s order asked l ≡ element_bytes t order offset asked l
  unfolding shifted_bytes element_bytes element_bits
  added f shifts l h e =
      let b : number_of order l < 256 ^ w = subst (λ (k : ℕ). number_of order l < 256 ^ k) (e ∙ sym wide) (number_bound order l h) in
      ap (bytes_of asked w) (shifts (number_of order l) b)
      ∙ (λ j. bytes_of asked (wide j) (offset_bits (sym (integer_class t.class n class f) j) (wide j) offset (number_of order l)))

  with_way : (y : Way)
      → ((l : List ℕ) → Octets l → length l ≡ t.width → made_by w y l ≡ element_bytes t order offset asked l)
      → Converts t order offset asked (record { width = w; way = y })
  with_way y right = record { wide = wide; width = subst Width (sym wide) width; right = right }

  -- The offset added; and the bytes only moved, where the offset is 0 or the class is float.
  pub converts_added : (n ≡ 2 → ⊥) → Shifts (integer (eqb n 1)) w offset s
      → Converts t order offset asked (record { width = w; way = Added (record { order = order; asked = asked; shift = s }) })
  unfolding made_by
  converts_added f shifts = with_way (Added (record { order = order; asked = asked; shift = s })) (added f shifts)

  module _ (F : SFits w64 offset) (none : ((n ≡ 2 → ⊥) × (of_z w64 offset ≡ 0)) ⊎ (n ≡ 2)) where
    no_offset : (l : List ℕ) → Octets l → length l ≡ t.width → turned (differ order asked) l ≡ element_bytes t order offset asked l
    no_offset = ⊎_elim (λ z. moved (sym (to_z-of_z w64 offset F) ∙ ap (to_z w64) z.1)) floats none

    pub converts_reversed : true ≡ differ order asked → Converts t order offset asked (record { width = w; way = Reversed })
    unfolding made_by
    converts_reversed d = with_way Reversed (λ l h e. ap (λ (b : Bool). turned b l) d ∙ no_offset l h e)

    pub converts_kept : ((1 < w) × (false ≡ differ order asked)) ⊎ (w ≤ 1) → Converts t order offset asked (record { width = w; way = Kept })
    unfolding made_by
    converts_kept d =
        with_way Kept
        (λ l h e. ⊎_elim (λ b. ap (λ (b : Bool). turned b l) b.1) (λ o. one_byte (differ order asked) l (omega (arith, e, wide))) d ∙ no_offset l h e)
