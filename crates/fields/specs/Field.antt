-- The fields of a block's array, by the grammar: "Fields, found like any keyword, are checked in this order, words by exact bytes. An
-- absent field takes the default." Nothing here says how they are read.
use Rattle.std.specs.Prelude.{◌≡◌, List, [], ◌∷◌, ℕ, suc, ◌≤◌, ℤ, pos, length, get_or}
use Rattle.scan.specs.Byte.{ascii}
use Rattle.lexical.specs.Whole.{IsWhole}
use Rattle.header.specs.Entry.{Entry}
use Rattle.blocks.specs.Values.{Absent}
use Rattle.blocks.specs.declared.Row.{Row}
use Rattle.keyword.specs.declared.Origin.{Origin}
use Rattle.raster.specs.Axis.{configurations}
use Rattle.raster.specs.Types.{type_words, order_words, compression_words}
use Rattle.description.specs.Limits.{dim_limit}
use Rattle.description.specs.declared.Description.{Description}
use Rattle.fields.specs.Keyword.{HasKeyword}
use Rattle.fields.specs.Origin.{OriginsAre}

-- ---- One field. `Has v`: the field is there, with the value v.

-- Word number `code` of some words, from 1.
pub data IsWord : List (List ℕ) → ℕ → List ℕ → Type 0 where
  first : {w : List ℕ} {ws : List (List ℕ)} → IsWord (w ∷ ws) 1 w
  later : {w v : List ℕ} {ws : List (List ℕ)} {n : ℕ} → IsWord ws n v → IsWord (w ∷ ws) (suc n) v

module _ (Has : List ℕ → Type 0) where
  pub data WordIs (words : List (List ℕ)) (default : ℕ) : ℕ → Type 0 where
    absent : Absent Has → WordIs words default default
    given : {v : List ℕ} {code : ℕ} → Has v → IsWord words code v → WordIs words default code

  -- "unknown word".
  pub record Unknown (words : List (List ℕ)) : Type 0 where
    pub value : List ℕ
    pub has : Has value
    pub unknown : (code : ℕ) → IsWord words code value → ⊥

  -- A whole number from 1 to `most`.
  pub data NumberIs (most default : ℕ) : ℕ → Type 0 where
    absent : Absent Has → NumberIs most default default
    given : {v : List ℕ} {n : ℕ} → Has v → IsWhole v (pos n) → 1 ≤ n → n ≤ most → NumberIs most default n

  -- Any whole number.
  pub data WholeIs (default : ℤ) : ℤ → Type 0 where
    absent : Absent Has → WholeIs default default
    given : {v : List ℕ} {z : ℤ} → Has v → IsWhole v z → WholeIs default z

-- ---- The fields of a block

module _ (s : List ℕ) (rows : List Row) (row : Row) where
  -- The block has the field, with the value v.
  pub record FieldHas (name v : List ℕ) : Type 0 where
    pub entry : Entry
    pub keyword : HasKeyword s rows row name entry
    pub value_is : entry.value ≡ v

  abbrev pub TypeIs : ℕ → Type 0
  TypeIs code = WordIs (FieldHas (ascii "DataType")) type_words 7 code

  abbrev pub OrderIs : ℕ → Type 0
  OrderIs code = WordIs (FieldHas (ascii "ByteOrder")) order_words 1 code

  abbrev pub CompressionIs : ℕ → Type 0
  CompressionIs code = WordIs (FieldHas (ascii "Compression")) compression_words 1 code

  -- A field 1 to 3 whose word is the first that is unknown.
  pub data UnknownField : ℕ → Type 0 where
    datatype : Unknown (FieldHas (ascii "DataType")) type_words → UnknownField 1
    byteorder : {type : ℕ} → TypeIs type → Unknown (FieldHas (ascii "ByteOrder")) order_words → UnknownField 2
    compression : {type order : ℕ} → TypeIs type → OrderIs order → Unknown (FieldHas (ascii "Compression")) compression_words
        → UnknownField 3

  -- "N is the largest J with Dim_1 to Dim_J all found": of the keys `names` from the first on, the Dims that are found.
  pub data DimsFound : List (List ℕ) → List ℕ → Type 0 where
    missing : {name : List ℕ} {names : List (List ℕ)} → Absent (FieldHas name) → DimsFound (name ∷ names) []
    found : {name v : List ℕ} {names : List (List ℕ)} {d : ℕ} {ds : List ℕ} → FieldHas name v → IsWhole v (pos d) → 1 ≤ d → d ≤ dim_limit
        → DimsFound names ds → DimsFound (name ∷ names) (d ∷ ds)

  -- "With no Dim_1, N is 1 and Dim_1 is 0: an empty array."
  pub data DimsAre : List ℕ → Type 0 where
    none_found : Absent (FieldHas (ascii "Dim_1")) → DimsAre (0 ∷ [])
    some-found : {d : ℕ} {ds : List ℕ} → DimsFound (ascii "Dim_1" ∷ ascii "Dim_2" ∷ ascii "Dim_3" ∷ ascii "Dim_4" ∷ []) (d ∷ ds)
        → DimsAre (d ∷ ds)

  -- A description whose fields are those of the block, or their defaults, and whose origins say which.
  pub record FieldsAre (d : Description) : Type 0 where
    pub data_block : row.kind ≡ 1
    pub datatype : TypeIs d.datatype
    pub byteorder : OrderIs d.byteorder
    pub compression : CompressionIs d.compression
    pub dims : List ℕ
    pub dims_are : DimsAre dims
    pub n_is : d.n ≡ length dims
    pub dim1_is : d.dim1 ≡ get_or dims 0 1
    pub dim2_is : d.dim2 ≡ get_or dims 1 1
    pub dim3_is : d.dim3 ≡ get_or dims 2 1
    pub configuration : NumberIs (FieldHas (ascii "DataRasterConfiguration")) (configurations d.n) 1 d.configuration
    pub orientation : NumberIs (FieldHas (ascii "RasterOrientation")) (configurations d.n) 1 d.orientation
    pub offset : WholeIs (FieldHas (ascii "DataValueOffset")) (pos 0) d.offset
    pub origins : OriginsAre s rows row d.origins

-- ---- A description, field by field

-- A field that is missing takes its default. `Missing name o`: there is no field of the name, whose origin is o.
pub record TakesDefaults (Missing : List ℕ → Origin → Type 0) (d : Description) : Type 0 where
  pub datatype : Missing (ascii "DataType") d.origins.datatype → d.datatype ≡ 7
  pub byteorder : Missing (ascii "ByteOrder") d.origins.byteorder → d.byteorder ≡ 1
  pub compression : Missing (ascii "Compression") d.origins.compression → d.compression ≡ 1
  pub dims : Missing (ascii "Dim_1") d.origins.dims → (d.n ≡ 1) × (d.dim1 ≡ 0)
  pub configuration : Missing (ascii "DataRasterConfiguration") d.origins.configuration → d.configuration ≡ 1
  pub orientation : Missing (ascii "RasterOrientation") d.origins.orientation → d.orientation ≡ 1
  pub offset : Missing (ascii "DataValueOffset") d.origins.offset → d.offset ≡ pos 0

-- A field that is found is what stands there. `Found name v`: there is one, with the value v.
pub record TakesValues (Found : List ℕ → List ℕ → Type 0) (d : Description) : Type 0 where
  pub datatype : (v : List ℕ) → Found (ascii "DataType") v → IsWord type_words d.datatype v
  pub byteorder : (v : List ℕ) → Found (ascii "ByteOrder") v → IsWord order_words d.byteorder v
  pub compression : (v : List ℕ) → Found (ascii "Compression") v → IsWord compression_words d.compression v
  pub dim1 : (v : List ℕ) → Found (ascii "Dim_1") v → IsWhole v (pos d.dim1)
  pub configuration : (v : List ℕ) → Found (ascii "DataRasterConfiguration") v → IsWhole v (pos d.configuration)
  pub orientation : (v : List ℕ) → Found (ascii "RasterOrientation") v → IsWhole v (pos d.orientation)
  pub offset : (v : List ℕ) → Found (ascii "DataValueOffset") v → IsWhole v d.offset
