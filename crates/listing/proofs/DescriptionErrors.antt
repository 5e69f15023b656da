-- The errors of a description: their codes, and that their position is the number of a field, or 0.
use Rattle.std.specs.Prelude.{Option, None, Some}
use Rattle.scan.specs.Outcome.{Outcome, present}
use mathlib.Core.Bool.{not}
use mathlib.Core.List.{List, [], ◌∷◌, ◌++◌}
use Prim.Native.Nat.{ℕ, ◌*◌, ◌≤◌}
use native.Mathlib.Omega.{arith}
use lib.Dec.{leb, eqb}
use lib.IntN.{ℤ, pos}
use lib.ListN.{length}
use Rattle.scan.specs.Byte.{ascii}
use Rattle.scan.specs.declared.Error.{Error}
use Rattle.text.specs.Number.{whole_number}
use Rattle.keyword.specs.Keyword.{View}
use Rattle.keyword.specs.Viewing.{value_in}
use Rattle.origins.specs.Fields.{by_name}
use Rattle.origins.specs.Origins.{FieldOrigins, origins_in}
use Rattle.raster.specs.Axis.{configurations}
use Rattle.raster.specs.Position.{product}
use Rattle.raster.specs.Types.{type_of, type_words, order_words, compression_words, code_of}
use Rattle.description.specs.Describe.{Values, dim_values, dims_of, words_of, offset_allowed, described, description_in}
use Rattle.description.specs.Fields.{word_field, in_range, range_field, whole_field, found_first, dims_from, or_empty}
use Rattle.listing.proofs.ErrorLaws.{Errors, no_error, presence, checks, steps}

-- The code is one from 16 to 21.
abbrev pub FieldError : Error → Type 0
FieldError e = (16 ≤ e.code) × (e.code ≤ 21) × (e.position ≤ 7)

abbrev FieldErrors : {A : Type 0} → Outcome A → Type 0
FieldErrors o = Errors FieldError o

-- ---- The fields

word_errors : (field : ℕ) (words : List (List ℕ)) (default : ℕ) (o : Option (List ℕ)) → field ≤ 7 → FieldErrors (word_field field words default o)
unfolding word_field
word_errors field words default None h = no_error FieldError default
word_errors field words default (Some v) h = presence FieldError (code_of words v) 17 field (omega arith)

range_errors : (field most default : ℕ) (o : Option (List ℕ)) → field ≤ 7 → FieldErrors (range_field field most default o)
unfolding range_field
range_errors field most default None h = no_error FieldError default
range_errors field most default (Some v) h = presence FieldError (in_range 1 most (whole_number v)) 18 field (omega arith)

whole_errors : (field : ℕ) (default : ℤ) (o : Option (List ℕ)) → field ≤ 7 → FieldErrors (whole_field field default o)
unfolding whole_field
whole_errors field default None h = no_error FieldError default
whole_errors field default (Some v) h = presence FieldError (whole_number v) 18 field (omega arith)

dims_from_errors : (vs : List (List ℕ)) → FieldErrors (dims_from vs)
unfolding dims_from
dims_from_errors [] = no_error FieldError []
dims_from_errors (v ∷ vs) =
    steps FieldError (present (in_range 1 1048576 (whole_number v)) 18 4) _ (presence FieldError (in_range 1 1048576 (whole_number v)) 18 4 (omega arith))
    (λ d. steps FieldError (dims_from vs) _ (dims_from_errors vs) (λ ds. no_error FieldError (d ∷ ds)))

-- ---- The description

module _ (look : Values) where
  dims_errors : FieldErrors (dims_of look)
  unfolding dims_of
  dims_errors =
      steps FieldError (dims_from (found_first (dim_values look))) _ (dims_from_errors (found_first (dim_values look)))
      (λ ds. checks FieldError (not (eqb (length (found_first (dim_values look ++ (look (ascii "Dim_4") ∷ [])))) 4)) 19 0 _ (omega arith) (no_error FieldError (or_empty ds)))

  words_errors : FieldErrors (words_of (by_name look))
  unfolding words_of
  words_errors =
      steps FieldError (word_field 1 type_words 7 (look (ascii "DataType"))) _ (word_errors 1 type_words 7 (look (ascii "DataType")) (omega arith))
      (λ t. steps FieldError (word_field 2 order_words 1 (look (ascii "ByteOrder"))) _ (word_errors 2 order_words 1 (look (ascii "ByteOrder")) (omega arith))
      (λ o. steps FieldError (word_field 3 compression_words 1 (look (ascii "Compression"))) _
      (word_errors 3 compression_words 1 (look (ascii "Compression")) (omega arith)) (λ c. no_error FieldError _)))

  described_errors : (origins : FieldOrigins) (size : ℕ) → FieldErrors (described look origins size)
  unfolding described
  described_errors origins size =
      steps FieldError (words_of (by_name look)) _ words_errors
      (λ words. steps FieldError (dims_of look) _ dims_errors
      (λ dims. steps FieldError (range_field 5 (configurations (length dims)) 1 (look (ascii "DataRasterConfiguration"))) _
      (range_errors 5 (configurations (length dims)) 1 (look (ascii "DataRasterConfiguration")) (omega arith))
      (λ c. steps FieldError (range_field 6 (configurations (length dims)) 1 (look (ascii "RasterOrientation"))) _
      (range_errors 6 (configurations (length dims)) 1 (look (ascii "RasterOrientation")) (omega arith))
      (λ o. steps FieldError (whole_field 7 (pos 0) (look (ascii "DataValueOffset"))) _ (whole_errors 7 (pos 0) (look (ascii "DataValueOffset")) (omega arith))
      (λ z. checks FieldError (leb (product dims * (type_of words.datatype).width) size) 20 0 _ (omega arith)
      (checks FieldError (offset_allowed (type_of words.datatype).class z) 21 0 _ (omega arith) (no_error FieldError _)))))))

pub description_errors : (v : View) → Errors FieldError (description_in v)
unfolding description_in
description_errors v =
    checks FieldError (eqb v.row.kind 1) 16 0 _ (omega arith) (described_errors (value_in v) (origins_in v) v.row.size)
