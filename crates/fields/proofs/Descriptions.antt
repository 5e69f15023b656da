-- The description of a block: its fields are those of the block by the grammar, and 17 is given exactly at the first unknown word.
use Rattle.std.specs.Prelude.{None, Some, Ok, slice_get}
use Rattle.scan.specs.Outcome.{refused, require, ◌>>◌}
use mathlib.Core.Path.{◌≡◌, refl, sym, ap, subst, ◌∙◌}
use mathlib.Core.Bool.{Bool}
use mathlib.Core.List.{List}
use mathlib.Core.Logic.{◌≢◌, ◌↔◌}
use Prim.Native.Nat.{ℕ, ◌*◌, ◌≤◌}
use native.Mathlib.Omega.{arith}
use borrow.Author.Tests.{eq-eqb, ne_eqb, eqb-true}
use lib.Dec.{eqb, leb}
use lib.IntN.{pos}
use lib.ListN.{length}
use Rattle.scan.specs.Byte.{ascii}
use Rattle.scan.proofs.Finds.{finds_by, finds_map}
use Rattle.header.specs.Entry.{Entry}
use Rattle.blocks.specs.Grammar.{Partition}
use Rattle.blocks.specs.Limits.{file_limit}
use Rattle.blocks.specs.declared.Row.{Row}
use Rattle.keyword.specs.Viewing.{value_in}
use Rattle.origins.specs.Fields.{by_name}
use Rattle.origins.specs.Origins.{FieldOrigins, origins_in}
use Rattle.raster.specs.Axis.{configurations}
use Rattle.raster.specs.Position.{product}
use Rattle.raster.specs.Types.{type_of}
use Rattle.description.specs.Describe.{Values, words_of, dims_of, description_with, offset_allowed, described, description_in, description_of}
use Rattle.description.specs.Fields.{range_field, whole_field}
use Rattle.description.specs.declared.Description.{Description}
use Rattle.description.proofs.DescribedLaws.{step_ok, check_ok, required, same_ok}
use Rattle.fields.specs.Field.{FieldsAre, UnknownField}
use Rattle.fields.specs.Origin.{OriginsAre}
use Rattle.fields.proofs.DimLaws.{dims_say}
use Rattle.fields.proofs.FieldLaws.{ReadsFields, number_says, whole_says}
use Rattle.fields.proofs.KeywordLaws.{view_here, view_is, view_missing, finds_keyword, one-keyword}
use Rattle.fields.proofs.OriginLaws.{origins_are}
use Rattle.fields.proofs.Spared.{step_spares, require_spares, range_spares, whole_spares, dims_spare}
use Rattle.fields.proofs.UnknownLaws.{words_known, unknown-first}

-- A block with the row, whose fields are read by `look`.
module _ {s : List ℕ} {rows : List Row} {row : Row} {look : Values} (reads : ReadsFields s rows row look) where
  fields_say : row.kind ≡ 1 → {origins : FieldOrigins} → OriginsAre s rows row origins → (size : ℕ) {d : Description}
      → described look origins size ≡ Ok d → FieldsAre s rows row d
  unfolding described
  fields_say kind {origins} from size {d} e =
      let p = step_ok (words_of (by_name look)) _ d e in
      let q = step_ok (dims_of look) _ d p.2 in
      let most = configurations (length q.0) in
      let r = step_ok (range_field 5 most 1 (look (ascii "DataRasterConfiguration"))) _ d q.2 in
      let t = step_ok (range_field 6 most 1 (look (ascii "RasterOrientation"))) _ d r.2 in
      let u = step_ok (whole_field 7 (pos 0) (look (ascii "DataValueOffset"))) _ d t.2 in
      let type = type_of p.0.datatype in
      let v = check_ok (require (leb (product q.0 * type.width) size) 20 0) _ d u.2 in
      let w = check_ok (require (offset_allowed type.class u.0) 21 0)
      (Ok (description_with p.0 q.0 r.0 t.0 u.0 origins)) d v.2 in
      let words = words_known reads p.1 in
      subst (FieldsAre s rows row) (same_ok w.2)
      (record {
        data_block = kind;
        datatype = words.0;
        byteorder = words.1;
        compression = words.2;
        dims = q.0;
        dims_are = dims_say reads q.1;
        n_is = refl;
        dim1_is = refl;
        dim2_is = refl;
        dim3_is = refl;
        configuration = number_says (reads (ascii "DataRasterConfiguration")) 5 most 1 r.1;
        orientation = number_says (reads (ascii "RasterOrientation")) 6 most 1 t.1;
        offset = whole_says (reads (ascii "DataValueOffset")) 7 (pos 0) u.1;
        origins = from;
      })

  unknown_says : (origins : FieldOrigins) (size : ℕ) {k : ℕ} → (described look origins size ≡ refused 17 k) ↔ UnknownField s rows row k
  unfolding described
  unknown_says origins size =
      unknown-first reads _
      (λ words. step_spares (dims_of look) _ (dims_spare look)
      (λ dims.
      let most = configurations (length dims) in
      let type = type_of words.datatype in
      let configuration = look (ascii "DataRasterConfiguration") in
      let orientation = look (ascii "RasterOrientation") in
      let offset = look (ascii "DataValueOffset") in
      step_spares (range_field 5 most 1 configuration) _ (range_spares 5 most 1 configuration)
      (λ c. step_spares (range_field 6 most 1 orientation) _ (range_spares 6 most 1 orientation)
      (λ o. step_spares (whole_field 7 (pos 0) offset) _ (whole_spares 7 (pos 0) offset)
      (λ z. require_spares (leb (product dims * type.width) size) 20 0 _ (λ e. omega arith)
      (require_spares (offset_allowed type.class z) 21 0 _ (λ e. omega arith) tt))))))

-- ---- A block of a file with a partition

module _ {s : List ℕ} {rows : List Row} (small : length s ≤ file_limit) (p : Partition s rows) (b : ℕ) where
  module _ {row : Row} (at : slice_get rows b ≡ Some row) where
    pub reads_field : ReadsFields s rows row (value_in (view_here small p b at))
    reads_field name = record {
      finds = finds_by
          (λ v h. record { entry = h.0; keyword = h.1; value_is = h.2 })
          (λ v f. (f.entry, f.keyword, f.value_is))
          (finds_map (λ (e : Entry). e.value) (finds_keyword small p b at name));
      one = λ f g. sym f.value_is ∙ ap (λ (e : Entry). e.value) (one-keyword f.keyword g.keyword) ∙ g.value_is;
    }

    description_by : description_of s b ≡ description_in (view_here small p b at)
    unfolding description_of
    description_by = rw (view_is small p b at)

    pub described_fields : {d : Description} → description_of s b ≡ Ok d → FieldsAre s rows row d
    unfolding description_in
    described_fields {d} e =
        let q = check_ok (require (eqb row.kind 1) 16 0) _ d (sym description_by ∙ e) in
        fields_say reads_field (eqb-true row.kind 1 (required (eqb row.kind 1) 16 0 q.0 q.1))
        (origins_are small p b at) row.size q.2

    pub unknown_word : row.kind ≡ 1 → {k : ℕ} → (description_of s b ≡ refused 17 k) ↔ UnknownField s rows row k
    unfolding description_in
    unknown_word kind {k} =
        let view = view_here small p b at in
        let array = described (value_in view) (origins_in view) row.size in
        let is : description_of s b ≡ array = description_by ∙ ap (λ (t : Bool). require t 16 0 >> array) (eq-eqb row.kind 1 kind) in
        rw is (unknown_says reads_field (origins_in view) row.size)

    -- An array asked of the general block.
    pub general_refused : row.kind ≢ 1 → description_of s b ≡ refused 16 0
    unfolding description_in
    general_refused kind = description_by ∙ rw (ne_eqb row.kind 1 kind)

  -- No such block.
  pub description_missing : slice_get rows b ≡ None → description_of s b ≡ refused 16 0
  unfolding description_of
  description_missing at = rw (view_missing small p b at)
