-- Records as numbers of 64 bits, one for each field: a block's row, and an array's description. A number with a sign is given by its
-- bits.
use Rattle.std.specs.Prelude.{List, [], ◌∷◌, ℕ, suc, ◌-◌, ◌^◌, ℤ, pos, negsuc}
use Rattle.blocks.specs.declared.Row.{Row}
use Rattle.description.specs.declared.Description.{Description}
use Rattle.origins.specs.Letter.{number_of}
use Rattle.origins.specs.Origins.{FieldOrigins}

-- Two's complement, in 64 bits; `negsuc n` is -(n + 1).
abbrev pub bits_of : ℤ → ℕ
bits_of (pos n) = n
bits_of (negsuc n) = 2 ^ 64 - suc n

-- The numbers of a row: its start, the length of its header, the size of its data, its kind, and its identity.
abbrev pub row_numbers : Row → List ℕ
row_numbers r =
    r.start ∷ r.header ∷ r.size ∷ r.kind ∷ bits_of r.sequence ∷ r.instance ∷ bits_of r.memory ∷ []

-- The numbers of the origins: "Each of the seven described fields carries an origin" (02, No. 1).
abbrev pub origin_numbers : FieldOrigins → List ℕ
origin_numbers o =
    number_of o.datatype
    ∷ number_of o.byteorder
    ∷ number_of o.compression
    ∷ number_of o.dims
    ∷ number_of o.configuration
    ∷ number_of o.orientation
    ∷ number_of o.offset
    ∷ []

-- The numbers of a description: those of its fields, then those of the fields' origins.
abbrev pub description_numbers : Description → List ℕ
description_numbers d =
    d.datatype
    ∷ d.byteorder
    ∷ d.compression
    ∷ d.n
    ∷ d.dim1
    ∷ d.dim2
    ∷ d.dim3
    ∷ d.configuration
    ∷ d.orientation
    ∷ bits_of d.offset
    ∷ origin_numbers d.origins
