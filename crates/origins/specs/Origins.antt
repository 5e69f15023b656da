-- "Each of the seven described fields carries an origin (Dim: that of Dim_1)" (02, No. 1).
use Rattle.keyword.specs.Keyword.{View}
use Rattle.keyword.specs.Origin.{origin_in}
use Rattle.keyword.specs.declared.Origin.{Origin}
use Rattle.keyword.specs.declared.Traced.{Traced}
use Rattle.origins.specs.Fields.{by_name, each}
use Rattle.origins.specs.declared.Fields.{Fields}

abbrev pub FieldOrigins : Type 0
FieldOrigins = Fields Origin

-- Of a block.
abbrev pub origins_in : View → FieldOrigins
origins_in b = by_name (origin_in b)

-- Of fields that were found.
abbrev pub found_origins : Fields Traced → FieldOrigins
found_origins f = each (λ (t : Traced). t.origin) f
