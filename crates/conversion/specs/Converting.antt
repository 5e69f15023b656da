-- How every element of an array is made, settled once for all of them.
use Rattle.std.specs.Prelude.{◌≡◌, Bool, true, false, cond, not, List, ℕ, eqb, ℤ, length}
use Rattle.raster.specs.Element.{element_bytes}
use Rattle.raster.specs.Strided.{Octets, turned, Width}
use Rattle.raster.specs.Types.{DataType}
use Rattle.shift.specs.Adding.{added}
use Rattle.conversion.specs.declared.conversion.Way.{Way}
use Rattle.conversion.specs.declared.conversion.Way.TheVariants.{Kept, Reversed, Added}
use Rattle.conversion.specs.declared.conversion.Conversion.{Conversion}

-- One of the orders is the high byte first, and the other is not.
abbrev pub differ : ℕ → ℕ → Bool
differ order asked = cond (eqb order 1) (not (eqb asked 1)) (eqb asked 1)

-- The bytes of an element of w: as they stand, or reversed, or with the offset added.
unfoldable pub made_by : ℕ → Way → List ℕ → List ℕ
made_by w Kept l = turned false l
made_by w Reversed l = turned true l
made_by w (Added a) l = added w a l

abbrev pub converted : Conversion → List ℕ → List ℕ
converted c = made_by c.width c.way

-- The conversion makes each element what is to be delivered.
pub record Converts (t : DataType) (order : ℕ) (offset : ℤ) (asked : ℕ) (c : Conversion) : Type 0 where
  pub wide : c.width ≡ t.width
  pub width : Width c.width
  pub right : (l : List ℕ) → Octets l → length l ≡ t.width → converted c l ≡ element_bytes t order offset asked l
