-- The fields of an array: words, whole numbers in a range, and Dims. "An absent field takes the default." Errors 17 and 18 have
-- the field's number as their position.
use Rattle.std.specs.Prelude.{cond, ◌&&◌, List, [], ◌∷◌, ℕ, leb, ℤ, pos, negsuc, Option, None, Some, Ok}
use Rattle.scan.specs.Outcome.{Outcome, present, ◌>>=◌}
use Rattle.text.specs.Number.{whole_number}
use Rattle.raster.specs.Types.{code_of}
use Rattle.description.specs.Limits.{dim_limit}

-- A field that is one of some words, "by exact bytes": its code, or 17, "unknown word".
unfoldable pub word_field : ℕ → List (List ℕ) → ℕ → Option (List ℕ) → Outcome ℕ
word_field field words default None = Ok default
word_field field words default (Some v) = present (code_of words v) 17 field

-- A whole number from `least` to `most`.
abbrev pub in_range : ℕ → ℕ → Option ℤ → Option ℕ
in_range least most None = None
in_range least most (Some (pos n)) = cond (leb least n && leb n most) (Some n) None
in_range least most (Some (negsuc n)) = None

-- A field that is such a number, or 18, "bad number or range".
unfoldable pub range_field : ℕ → ℕ → ℕ → Option (List ℕ) → Outcome ℕ
range_field field most default None = Ok default
range_field field most default (Some v) = present (in_range 1 most (whole_number v)) 18 field

-- A field that is any whole number.
unfoldable pub whole_field : ℕ → ℤ → Option (List ℕ) → Outcome ℤ
whole_field field default None = Ok default
whole_field field default (Some v) = present (whole_number v) 18 field

-- The values up to the first that is not found.
unfoldable pub found_first : List (Option (List ℕ)) → List (List ℕ)
found_first [] = []
found_first (None ∷ rest) = []
found_first (Some v ∷ rest) = v ∷ found_first rest

-- Field 4, "Dim_1 to Dim_3 | 1 to 1,048,576".
unfoldable pub dims_from : List (List ℕ) → Outcome (List ℕ)
dims_from [] = Ok []
dims_from (v ∷ vs) = do
  d ← present (in_range 1 dim_limit (whole_number v)) 18 4
  ds ← dims_from vs
  Ok (d ∷ ds)

-- "With no Dim_1, N is 1 and Dim_1 is 0: an empty array."
abbrev pub or_empty : List ℕ → List ℕ
or_empty [] = 0 ∷ []
or_empty (d ∷ ds) = d ∷ ds
