-- The columns of a block and of an error, as the lister prints them (01, "The lister").
use Rattle.std.specs.Prelude.{cond, List, [], ◌∷◌, ◌++◌, map, ℕ, ◌-◌, eqb, pos, get_or}
use Rattle.scan.specs.Byte.{ascii}
use Rattle.scan.specs.declared.Error.{Error}
use Rattle.text.specs.Decimal.{decimal}
use Rattle.blocks.specs.IdentityText.{identity_text}
use Rattle.blocks.specs.declared.Row.{Row}
use Rattle.keyword.specs.declared.Origin.{Origin}
use Rattle.origins.specs.Letter.{letter_of}
use Rattle.raster.specs.Types.{order_words}
use Rattle.description.specs.Shape.{array_type, array_dims}
use Rattle.description.specs.Valid.{ValidArray}
use Rattle.description.specs.declared.Description.{Description}

-- A number from 0, in shortest decimal form.
abbrev pub number : ℕ → List ℕ
number n = decimal (pos n)

-- Pieces of text, each after a separator.
unfoldable pub after : ℕ → List (List ℕ) → List ℕ
after separator [] = []
after separator (w ∷ ws) = (separator ∷ w) ++ after separator ws

-- "identity (`general`, or `-` in kind 1)". A data block has an instance in kind 2 only.
unfoldable pub identity_of : Row → List ℕ
identity_of row =
    cond (eqb row.kind 0) (ascii "general")
    (cond (eqb row.instance 0) (ascii "-") (identity_text row.sequence row.instance row.memory))

-- "Dims joined by `x`"
unfoldable pub dims_text : List ℕ → List ℕ
dims_text [] = []
dims_text (d ∷ ds) = number d ++ after 120 (map number ds)

-- "The lister prints o, g or d straight after each field's text" (02, No. 1).
abbrev pub marked : List ℕ → Origin → List ℕ
marked text origin = text ++ (letter_of origin ∷ [])

-- Type and order.
abbrev pub words_columns : Description → List (List ℕ)
words_columns d = marked (array_type d).word d.origins.datatype ∷ marked (get_or order_words (d.byteorder - 1) []) d.origins.byteorder ∷ []

-- Configuration, orientation and offset.
abbrev pub numbers_columns : Description → List (List ℕ)
numbers_columns d =
    marked (number d.configuration) d.origins.configuration
    ∷ marked (number d.orientation) d.origins.orientation
    ∷ marked (decimal d.offset) d.origins.offset
    ∷ []

-- "then type, order, Dims joined by `x`, configuration, orientation, offset", each with the letter of its origin.
unfoldable pub array_columns : Description → List (List ℕ)
array_columns d = words_columns d ++ (marked (dims_text (array_dims d)) d.origins.dims ∷ numbers_columns d)

-- "number, place" of an error.
unfoldable pub error_columns : Error → List (List ℕ)
error_columns e = number e.code ∷ number e.position ∷ []

-- A description that some block's fields give.
abbrev pub Answered : Description → Type 0
Answered d = (size : ℕ) × ValidArray d size
