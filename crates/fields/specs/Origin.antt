-- Where a field came from, by the grammar: "own header, general header, or default" (02, No. 1). Nothing here says how it is found out.
use Rattle.std.specs.Prelude.{◌≡◌, List, ◌↔◌, ℕ}
use Rattle.scan.specs.Byte.{ascii}
use Rattle.text.specs.Key.{key_of}
use Rattle.header.specs.Entry.{Entry}
use Rattle.blocks.specs.declared.Row.{Row}
use Rattle.keyword.specs.declared.Origin.{Origin}
use Rattle.keyword.specs.declared.Origin.TheVariants as origin
use Rattle.origins.specs.Origins.{FieldOrigins}
use Rattle.fields.specs.Keyword.{HeaderHas, Inherits, LacksKeyword}

module _ (s : List ℕ) (rows : List Row) (row : Row) where
  -- The block's own header has the keyword.
  abbrev pub OwnHas : List ℕ → Type 0
  OwnHas name = (e : Entry) × HeaderHas s row.start (key_of name) e

  -- The general header is in reach and has it.
  abbrev pub GeneralHas : List ℕ → Type 0
  GeneralHas name = Inherits rows row (key_of name) × ((e : Entry) × HeaderHas s 0 (key_of name) e)

  -- The origin of a keyword: own exactly if the own header has it, general exactly if the own header has it not and the general one has
  -- it, default exactly if no header in reach has it.
  pub record ComesFrom (name : List ℕ) (o : Origin) : Type 0 where
    pub own : (o ≡ origin.Own) ↔ OwnHas name
    pub general : (o ≡ origin.General) ↔ ((OwnHas name → ⊥) × GeneralHas name)
    pub default : (o ≡ origin.Default) ↔ LacksKeyword s rows row name

-- What holds of the origin of each field, by the field's name; "Dim: that of Dim_1".
pub record EachOrigin (P : List ℕ → Origin → Type 0) (o : FieldOrigins) : Type 0 where
  pub datatype : P (ascii "DataType") o.datatype
  pub byteorder : P (ascii "ByteOrder") o.byteorder
  pub compression : P (ascii "Compression") o.compression
  pub dims : P (ascii "Dim_1") o.dims
  pub configuration : P (ascii "DataRasterConfiguration") o.configuration
  pub orientation : P (ascii "RasterOrientation") o.orientation
  pub offset : P (ascii "DataValueOffset") o.offset

-- Each field came from where its origin says.
abbrev pub OriginsAre : List ℕ → List Row → Row → FieldOrigins → Type 0
OriginsAre s rows row = EachOrigin (ComesFrom s rows row)
