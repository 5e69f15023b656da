-- The description of a block's array, with errors 16 to 21: "Fields, found like any keyword, are checked in this order".
use Rattle.std.specs.Prelude.{Bool, true, false, not, ◌||◌, List, [], ◌∷◌, ◌++◌, ℕ, suc, ◌*◌, eqb, leb, ℤ, pos, negsuc, length, get_or, Option, Ok}
use Rattle.scan.specs.Outcome.{Outcome, require, ◌>>=◌, ◌>>◌}
use Rattle.scan.specs.Byte.{ascii}
use Rattle.keyword.specs.Keyword.{View, view_of}
use Rattle.keyword.specs.Viewing.{value_in}
use Rattle.origins.specs.Fields.{FieldValues, by_name}
use Rattle.origins.specs.Origins.{FieldOrigins, origins_in}
use Rattle.raster.specs.Axis.{configurations}
use Rattle.raster.specs.Position.{product}
use Rattle.raster.specs.Types.{type_of, type_words, order_words, compression_words}
use Rattle.raster.specs.declared.types.Class.{Class}
use Rattle.raster.specs.declared.types.Class.TheVariants.{Unsigned as unsigned, Signed as signed, Float as float}
use Rattle.description.specs.Fields.{word_field, range_field, whole_field, found_first, dims_from, or_empty}
use Rattle.description.specs.Limits.{most_dims}
use Rattle.description.specs.declared.Description.{Description}
use Rattle.description.specs.declared.words.Words.{Words}

-- Values of fields, by the fields' names.
abbrev pub Values : Type 0
Values = List ℕ → Option (List ℕ)

abbrev pub dim_values : Values → List (Option (List ℕ))
dim_values look = look (ascii "Dim_1") ∷ look (ascii "Dim_2") ∷ look (ascii "Dim_3") ∷ []

-- "N is the largest J with Dim_1 to Dim_J all found; the values of other Dim keys are not read." 19: "Dim_1 to Dim_4 all found
-- (after field 4)".
unfoldable pub dims_of : Values → Outcome (List ℕ)
dims_of look = do
  ds ← dims_from (found_first (dim_values look))
  require (not (eqb (length (found_first (dim_values look ++ (look (ascii "Dim_4") ∷ [])))) (suc most_dims))) 19 0
  Ok (or_empty ds)

-- Fields 1 to 3, as their codes.
unfoldable pub words_of : FieldValues → Outcome Words
words_of v = do
  datatype ← word_field 1 type_words 7 v.datatype
  byteorder ← word_field 2 order_words 1 v.byteorder
  compression ← word_field 3 compression_words 1 v.compression
  Ok (record { datatype = datatype; byteorder = byteorder; compression = compression })

-- The description with these fields. Dims past N are 1, as in 000.
abbrev pub description_with : Words → List ℕ → ℕ → ℕ → ℤ → FieldOrigins → Description
description_with words dims configuration orientation offset origins =
    record {
      datatype = words.datatype;
      byteorder = words.byteorder;
      compression = words.compression;
      n = length dims;
      dim1 = get_or dims 0 1;
      dim2 = get_or dims 1 1;
      dim3 = get_or dims 2 1;
      configuration = configuration;
      orientation = orientation;
      offset = offset;
      origins = origins;
    }

abbrev pub is_float : Class → Bool
is_float unsigned = false
is_float signed = false
is_float float = true

abbrev pub is_zero : ℤ → Bool
is_zero (pos n) = eqb n 0
is_zero (negsuc n) = false

-- 21: "nonzero offset on floats".
unfoldable pub offset_allowed : Class → ℤ → Bool
offset_allowed class offset = not (is_float class) || is_zero offset

-- By the values of the fields, their origins and the size of the data. 20: "extent shorter than the array".
unfoldable pub described : Values → FieldOrigins → ℕ → Outcome Description
described look origins size = do
  words ← words_of (by_name look)
  dims ← dims_of look
  configuration ← range_field 5 (configurations (length dims)) 1 (look (ascii "DataRasterConfiguration"))
  orientation ← range_field 6 (configurations (length dims)) 1 (look (ascii "RasterOrientation"))
  offset ← whole_field 7 (pos 0) (look (ascii "DataValueOffset"))
  require (leb (product dims * (type_of words.datatype).width) size) 20 0
  require (offset_allowed (type_of words.datatype).class offset) 21 0
  Ok (description_with words dims configuration orientation offset origins)

-- Of a block of a file. 16 also where "an array [is] asked of the general block".
unfoldable pub description_in : View → Outcome Description
description_in b = do
  require (eqb b.row.kind 1) 16 0
  described (value_in b) (origins_in b) b.row.size

unfoldable pub description_of : List ℕ → ℕ → Outcome Description
description_of s block = do
  b ← view_of s block
  description_in b
