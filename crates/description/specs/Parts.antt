-- The description of an array, in the parts that have a function of their own.
use Rattle.std.specs.Prelude.{List, [], ◌∷◌, ◌++◌, ℕ, ◌*◌, ◌≤◌, leb, pos, length, get_or, Option, None, Some, Ok}
use Rattle.scan.specs.Outcome.{Outcome, refused, present, require, ◌>>=◌, ◌>>◌}
use Rattle.scan.specs.Byte.{ascii}
use Rattle.text.specs.Number.{whole_number}
use Rattle.keyword.specs.Viewing.{view_at, value_in}
use Rattle.keyword.specs.declared.Block.{Block}
use Rattle.origins.specs.Fields.{FieldValues}
use Rattle.origins.specs.Origins.{FieldOrigins}
use Rattle.raster.specs.Axis.{configurations}
use Rattle.raster.specs.Position.{product}
use Rattle.raster.specs.Types.{type_of}
use Rattle.description.specs.Describe.{Values, description_with, offset_allowed}
use Rattle.description.specs.Fields.{in_range, or_empty, range_field, whole_field}
use Rattle.description.specs.Limits.{dim_limit}
use Rattle.description.specs.declared.Description.{Description}
use Rattle.description.specs.declared.describe.Extents.{Extents}
use Rattle.description.specs.declared.numbers.Numbers.{Numbers}
use Rattle.description.specs.declared.words.Words.{Words}

-- The values of the fields of a block of the file s.
abbrev pub fields_of : List ℕ → Block → Values
fields_of s b = value_in (view_at s b)

-- One Dim by its value, if that is found: 18 at 4.
unfoldable pub dim_read : Option (List ℕ) → Outcome (Option ℕ)
dim_read None = Ok None
dim_read (Some v) = do
  d ← present (in_range 1 dim_limit (whole_number v)) 18 4
  Ok (Some d)

-- Field 4 and error 19 after some Dims that were read: the values of the keys that follow, Dim_4's last.
unfoldable pub dims_after : List ℕ → List (Option (List ℕ)) → Outcome (List ℕ)
dims_after front [] = Ok front
dims_after front (None ∷ rest) = Ok (or_empty front)
dims_after front (Some v ∷ []) = refused 19 0
dims_after front (Some v ∷ next ∷ rest) = do
  d ← present (in_range 1 dim_limit (whole_number v)) 18 4
  dims_after (front ++ (d ∷ [])) (next ∷ rest)

abbrev pub dims_after_none : Values → Option (List ℕ) → Outcome (List ℕ)
dims_after_none look first = dims_after [] (first ∷ look (ascii "Dim_2") ∷ look (ascii "Dim_3") ∷ look (ascii "Dim_4") ∷ [])

-- Each of some Dims is within the limit.
abbrev pub SmallDims : List ℕ → Type 0
SmallDims ds = (i : ℕ) → get_or ds i 1 ≤ dim_limit

-- Dims as a description has them.
abbrev pub extents_of : List ℕ → Extents
extents_of ds = record { n = length ds; dim1 = get_or ds 0 1; dim2 = get_or ds 1 1; dim3 = get_or ds 2 1 }

-- Fields 5 to 7, where there are `most` configurations.
unfoldable pub numbers_from : FieldValues → ℕ → Outcome Numbers
numbers_from v most = do
  configuration ← range_field 5 most 1 v.configuration
  orientation ← range_field 6 most 1 v.orientation
  offset ← whole_field 7 (pos 0) v.offset
  Ok (record { configuration = configuration; orientation = orientation; offset = offset })

-- What follows the fields: 20 and 21.
unfoldable pub checked_array : Words → List ℕ → Numbers → FieldOrigins → ℕ → Outcome Description
checked_array words dims numbers origins size = do
  require (leb (product dims * (type_of words.datatype).width) size) 20 0
  require (offset_allowed (type_of words.datatype).class numbers.offset) 21 0
  Ok (description_with words dims numbers.configuration numbers.orientation numbers.offset origins)

-- What follows field 4.
unfoldable pub numbered_array : FieldValues → FieldOrigins → ℕ → Words → List ℕ → Outcome Description
numbered_array v origins size words dims = do
  numbers ← numbers_from v (configurations (length dims))
  checked_array words dims numbers origins size
