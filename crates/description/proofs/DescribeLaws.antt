-- The description of an array, check after check, on plain values.
use Rattle.std.specs.Prelude.{Ok, Err}
use Rattle.scan.specs.Outcome.{Outcome, refused, ◌>>=◌}
use mathlib.Core.Path.{◌≡◌, ap, ◌∙◌}
use mathlib.Core.Bool.{true, false}
use mathlib.Core.List.{List}
use Prim.Native.Nat.{ℕ, ◌*◌, ◌≤◌, ◌<◌}
use native.Mathlib.Nat.{mul_assoc}
use native.Mathlib.Omega.{arith}
use borrow.Author.Tests.{le-leb, lt-leb, eq-eqb, ne_eqb}
use lib.Dec.{leb}
use lib.IntN.{ℤ, pos}
use lib.ListN.{length, get_or}
use Rattle.scan.specs.Byte.{ascii}
use Rattle.scan.specs.declared.Error.{Error}
use Rattle.scan.proofs.Cases.{by_outcome}
use Rattle.keyword.specs.Keyword.{View, view_of}
use Rattle.keyword.specs.Trace.{Trace, trace_in}
use Rattle.keyword.specs.Viewing.{view_at, value_bytes}
use Rattle.keyword.specs.declared.Block.{Block}
use Rattle.keyword.specs.declared.Traced.{Traced}
use Rattle.origins.specs.Fields.{FieldValues, by_name, each, found, found_values}
use Rattle.origins.specs.Origins.{FieldOrigins, origins_in, found_origins}
use Rattle.origins.specs.declared.Fields.{Fields}
use Rattle.raster.specs.Axis.{configurations}
use Rattle.raster.specs.Position.{product}
use Rattle.raster.specs.Types.{type_of, type_words, order_words, compression_words}
use Rattle.description.specs.Answers.{dim_list}
use Rattle.description.specs.Describe.{Values, words_of, dims_of, offset_allowed, described, description_in, description_of}
use Rattle.description.specs.Fields.{word_field, range_field, whole_field}
use Rattle.description.specs.Limits.{dim_limit}
use Rattle.description.specs.Parts.{fields_of, dims_after_none, SmallDims, extents_of, numbers_from, checked_array, numbered_array}
use Rattle.description.specs.declared.Description.{Description}
use Rattle.description.specs.declared.describe.Extents.{Extents}
use Rattle.description.specs.declared.dimensions.Dims.{Dims}
use Rattle.description.specs.declared.dimensions.Dims.TheVariants as dims
use Rattle.description.specs.declared.numbers.Numbers.{Numbers}
use Rattle.description.specs.declared.words.Words.{Words}
use Rattle.description.proofs.DimLaws.{dims_from_none}

-- ---- Fields 1 to 3

module _ (v : FieldValues) where
  pub bad_type : {x : Error} → Err x ≡ word_field 1 type_words 7 v.datatype → Err x ≡ words_of v
  unfolding words_of
  bad_type e = rw (← e)

  module _ {t : ℕ} (e : Ok t ≡ word_field 1 type_words 7 v.datatype) where
    pub bad_order : {x : Error} → Err x ≡ word_field 2 order_words 1 v.byteorder → Err x ≡ words_of v
    unfolding words_of
    bad_order f = rw (← e, ← f)

    module _ {o : ℕ} (f : Ok o ≡ word_field 2 order_words 1 v.byteorder) where
      pub bad_compression : {x : Error} → Err x ≡ word_field 3 compression_words 1 v.compression → Err x ≡ words_of v
      unfolding words_of
      bad_compression g = rw (← e, ← f, ← g)

      pub good_words : {c : ℕ} → Ok c ≡ word_field 3 compression_words 1 v.compression
          → Ok (record { datatype = t; byteorder = o; compression = c }) ≡ words_of v
      unfolding words_of
      good_words g = rw (← e, ← f, ← g)

-- ---- Fields 5 to 7

module _ (v : FieldValues) (most : ℕ) where
  pub bad_configuration : {x : Error} → Err x ≡ range_field 5 most 1 v.configuration → Err x ≡ numbers_from v most
  unfolding numbers_from
  bad_configuration e = rw (← e)

  module _ {c : ℕ} (e : Ok c ≡ range_field 5 most 1 v.configuration) where
    pub bad_orientation : {x : Error} → Err x ≡ range_field 6 most 1 v.orientation → Err x ≡ numbers_from v most
    unfolding numbers_from
    bad_orientation f = rw (← e, ← f)

    module _ {o : ℕ} (f : Ok o ≡ range_field 6 most 1 v.orientation) where
      pub bad_offset : {x : Error} → Err x ≡ whole_field 7 (pos 0) v.offset → Err x ≡ numbers_from v most
      unfolding numbers_from
      bad_offset g = rw (← e, ← f, ← g)

      pub good_numbers : {z : ℤ} → Ok z ≡ whole_field 7 (pos 0) v.offset → {y : ℤ} → y ≡ z
          → Ok (record { configuration = c; orientation = o; offset = y }) ≡ numbers_from v most
      unfolding numbers_from
      good_numbers g q = rw (← e, ← f, ← g, q)

module _ (v : FieldValues) (origins : FieldOrigins) (size : ℕ) (words : Words) (dims : List ℕ) {most : ℕ} (m : most ≡ configurations (length dims)) where
  pub bad_numbers : {x : Error} → Err x ≡ numbers_from v most → Err x ≡ numbered_array v origins size words dims
  unfolding numbered_array
  bad_numbers e = rw (← m, ← e)

  pub by_numbers : {numbers : Numbers} → Ok numbers ≡ numbers_from v most → {found : FieldOrigins} → found ≡ origins → {x : Outcome Description}
      → x ≡ checked_array words dims numbers found size → x ≡ numbered_array v origins size words dims
  unfolding numbered_array
  by_numbers e f q = rw (← m, ← e, ← f) q

-- One field after the other.
field_by_field : (look : Values) (origins : FieldOrigins) (size : ℕ) (words : Words) (dims : List ℕ)
    → numbered_array (by_name look) origins size words dims
    ≡ (do
      configuration ← range_field 5 (configurations (length dims)) 1 (look (ascii "DataRasterConfiguration"))
      orientation ← range_field 6 (configurations (length dims)) 1 (look (ascii "RasterOrientation"))
      offset ← whole_field 7 (pos 0) (look (ascii "DataValueOffset"))
      checked_array words dims (record { configuration = configuration; orientation = orientation; offset = offset }) origins size)
unfolding numbered_array numbers_from
field_by_field look origins size words dims =
    let most = configurations (length dims) in
    by_outcome (range_field 5 most 1 (look (ascii "DataRasterConfiguration")))
    (λ c e. by_outcome (range_field 6 most 1 (look (ascii "RasterOrientation")))
    (λ o f. by_outcome (whole_field 7 (pos 0) (look (ascii "DataValueOffset"))) (λ z g. rw (e, f, g)) (λ x g. rw (e, f, g)))
    (λ x f. rw (e, f)))
    (λ x e. rw e)

-- ---- The size of the array, and the offset

pub byte_total : (d : Dims) → get_or (dim_list d) 0 1 * get_or (dim_list d) 1 1 * get_or (dim_list d) 2 1 ≡ product (dim_list d)
unfolding product
byte_total (dims.One a) = omega arith
byte_total (dims.Two a b) = omega arith
byte_total (dims.Three a b c) = rw (mul_assoc a b c) (omega arith)

pub small_extents : {x : Extents} (ds : List ℕ) → x ≡ extents_of ds → SmallDims ds
    → (x.dim1 ≤ dim_limit) × (x.dim2 ≤ dim_limit) × (x.dim3 ≤ dim_limit)
small_extents ds e h = rw e (h 0, h 1, h 2)

module _ (words : Words) (d : Dims) (numbers : Numbers) (origins : FieldOrigins) (size : ℕ)
    {x : Extents} (e : x ≡ extents_of (dim_list d)) {width : ℕ} (w : width ≡ (type_of words.datatype).width) where
  total : x.dim1 * x.dim2 * x.dim3 * width ≡ product (dim_list d) * (type_of words.datatype).width
  total = rw (e, w, byte_total d)

  module _ {n : ℕ} (is : n ≡ x.dim1 * x.dim2 * x.dim3 * width) where
    pub too_short : size < n → refused 20 0 ≡ checked_array words (dim_list d) numbers origins size
    unfolding checked_array
    too_short h = rw (lt-leb (product (dim_list d) * (type_of words.datatype).width) size (rw (is, total) at h))

    module _ (h : n ≤ size) where
      long_enough : leb (product (dim_list d) * (type_of words.datatype).width) size ≡ true
      long_enough = le-leb _ size (rw (is, total) at h)

      pub offset_refused : offset_allowed (type_of words.datatype).class numbers.offset ≡ false
          → refused 21 0 ≡ checked_array words (dim_list d) numbers origins size
      unfolding checked_array
      offset_refused a = rw (long_enough, a)

      -- The code holds the offset as z.
      pub array_described : offset_allowed (type_of words.datatype).class numbers.offset ≡ true → {z : ℤ} → z ≡ numbers.offset
          → Ok (record {
            datatype = words.datatype;
            byteorder = words.byteorder;
            compression = words.compression;
            n = x.n;
            dim1 = x.dim1;
            dim2 = x.dim2;
            dim3 = x.dim3;
            configuration = numbers.configuration;
            orientation = numbers.orientation;
            offset = z;
            origins = origins;
          })
          ≡ checked_array words (dim_list d) numbers origins size
      unfolding checked_array
      array_described a q = rw (long_enough, a, e, q)

-- ---- By what the block is

module _ (s : List ℕ) (b : Block) where
  pub general_block : (b.row.kind ≡ 1 → ⊥) → refused 16 0 ≡ description_in (view_at s b)
  unfolding description_in view_at
  general_block h = rw (ne_eqb b.row.kind 1 h)

  -- The fields that were found are those of the block.
  module _ (k : b.row.kind ≡ 1) (f : Fields Traced) (are : found s f ≡ by_name (trace_in (view_at s b))) where
    values_are : found_values s f ≡ by_name (fields_of s b)
    values_are = ap (each (λ (t : Trace). t.value)) are

    origins_are : found_origins f ≡ origins_in (view_at s b)
    origins_are = ap (λ (x : Fields Trace). each (λ (t : Trace). t.origin) x) are

    pub words_read : {o : Outcome Words} → o ≡ words_of (found_values s f) → o ≡ words_of (by_name (fields_of s b))
    words_read e = e ∙ ap words_of values_are

    pub dims_read : {o : Outcome (List ℕ)} → o ≡ dims_after_none (fields_of s b) (value_bytes s f.dims.value) → o ≡ dims_of (fields_of s b)
    dims_read e =
        dims_from_none (fields_of s b) (e ∙ ap (λ (v : FieldValues). dims_after_none (fields_of s b) v.dims) values_are)

    pub bad_words : {x : Error} → Err x ≡ words_of (found_values s f) → Err x ≡ description_in (view_at s b)
    unfolding description_in view_at described
    bad_words e = rw (eq-eqb b.row.kind 1 k, ← words_read e)

    module _ {words : Words} (e : Ok words ≡ words_of (found_values s f)) where
      pub bad_dims : {x : Error} → Err x ≡ dims_after_none (fields_of s b) (value_bytes s f.dims.value)
          → Err x ≡ description_in (view_at s b)
      unfolding description_in view_at described
      bad_dims g = rw (eq-eqb b.row.kind 1 k, ← words_read e, ← dims_read g)

      pub good_dims : {dims : List ℕ} → Ok dims ≡ dims_after_none (fields_of s b) (value_bytes s f.dims.value)
          → {x : Outcome Description}
          → x ≡ numbered_array (found_values s f) (found_origins f) b.row.size words dims → x ≡ description_in (view_at s b)
      unfolding description_in view_at described checked_array
      good_dims {dims} g q =
          rw (eq-eqb b.row.kind 1 k, ← words_read e, ← dims_read g)
          (q ∙ (λ i. numbered_array (values_are i) (origins_are i) b.row.size words dims)
          ∙ field_by_field (fields_of s b) (origins_in (view_at s b)) b.row.size words dims)

-- ---- By its number

module _ (s : List ℕ) (block : ℕ) where
  pub no_block : {x : Error} → Err x ≡ view_of s block → Err x ≡ description_of s block
  unfolding description_of
  no_block e = rw (← e)

  pub of_block : {v : View} → Ok v ≡ view_of s block → {x : Outcome Description} → x ≡ description_in v → x ≡ description_of s block
  unfolding description_of
  of_block e q = rw (← e) q
