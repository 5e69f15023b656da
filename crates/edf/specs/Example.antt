-- A worked example of 01 or 02: what a definition gives, beside what the document says that it gives.
use Rattle.std.specs.Prelude.{◌≡◌, List, [], ◌∷◌, cond, ℕ, ℤ, pos, None, Some}
use Rattle.scan.specs.Outcome.{Outcome, refused}
use Rattle.scan.specs.Byte.{same}
use Rattle.text.specs.Text.{text_of, quoted_text}
use Rattle.text.specs.Value.{value_of}
use Rattle.blocks.specs.Opening.{opened}
use Rattle.blocks.specs.declared.Row.{Row}
use Rattle.raster.specs.Axis.{Axis, order_of}
use Rattle.raster.specs.Element.{element_bits}
use Rattle.raster.specs.Types.{type_of}
use Rattle.reals.specs.Real.{real_of}
use Rattle.reals.specs.declared.Real.{Real}
use Rattle.origins.specs.Origins.{FieldOrigins}
use Rattle.description.specs.Describe.{described, Values}
use Rattle.description.specs.declared.Description.{Description}
use Rattle.array.specs.Delivery.{delivered}
use Rattle.frame.specs.File.{stored_pixels}
use Rattle.frame.specs.declared.Frame.{Frame}

-- A field and its value, for a list of the fields that stand in a header.
pub record Field : Type 0 where
  pub name : List ℕ
  pub value : List ℕ

abbrev pub values_from : List Field → Values
values_from [] name = None
values_from (f ∷ fs) name = cond (same f.name name) (Some f.value) (values_from fs name)

-- An array of UnsignedByte, 3 by 2, in a configuration: as it is described, wherever its fields came from, and as it is asked of the
-- writer.
abbrev pub three_by_two : FieldOrigins → ℕ → Description
three_by_two origins configuration =
    record {
      datatype = 1;
      byteorder = 1;
      compression = 1;
      n = 2;
      dim1 = 3;
      dim2 = 2;
      dim3 = 1;
      configuration = configuration;
      orientation = 1;
      offset = pos 0;
      origins = origins;
    }

abbrev pub frame_of : Description → Frame
frame_of d =
    record {
      sequence = pos 1;
      instance = 1;
      memory = pos 1;
      datatype = d.datatype;
      byteorder = d.byteorder;
      n = d.n;
      dim1 = d.dim1;
      dim2 = d.dim2;
      dim3 = d.dim3;
      configuration = d.configuration;
    }

pub data Example : Type 0 where
  -- "Array 3 by 2, delivered 1 2 3 4 5 6, is stored as": a configuration and the stored pixels.
  stored-as : ℕ → List ℕ → Example
  -- N, a configuration number and its order.
  order_is : ℕ → ℕ → List Axis → Example
  -- Fields that are refused, with the code and the position.
  fields-refused : List Field → ℕ → ℕ → Example
  -- A type's code, the bytes of an element high byte first, the offset, and the value.
  offset-gives : ℕ → List ℕ → ℤ → ℕ → Example
  -- A value and its text; a text and its value form.
  text_is : List ℕ → List ℕ → Example
  value-form : List ℕ → List ℕ → Example
  -- A file and what opening answers.
  opens_as : List ℕ → Outcome (List Row) → Example
  -- A value and the real number that it stands for.
  real_is : List ℕ → Outcome Real → Example

-- What an example says of the definitions.
abbrev pub Holds : Example → Type 0
Holds (stored-as c l) =
    (o : FieldOrigins) → (delivered (three_by_two o c) 1 l ≡ 1 ∷ 2 ∷ 3 ∷ 4 ∷ 5 ∷ 6 ∷ [])
    × (stored_pixels (frame_of (three_by_two o c)) (1 ∷ 2 ∷ 3 ∷ 4 ∷ 5 ∷ 6 ∷ []) ≡ l)
Holds (order_is n number axes) = order_of n number ≡ axes
Holds (fields-refused fields code position) = (o : FieldOrigins) → described (values_from fields) o 1000 ≡ refused code position
Holds (offset-gives type l offset n) = element_bits (type_of type) 1 offset l ≡ n
Holds (text_is value text) = text_of (value_of value) ≡ text
Holds (value-form text value) = quoted_text text ≡ value
Holds (opens_as s answer) = opened s ≡ answer
Holds (real_is value answer) = real_of value ≡ answer

abbrev pub Each : List Example → Type 0
Each [] = Unit {0}
Each (x ∷ xs) = Holds x × Each xs
