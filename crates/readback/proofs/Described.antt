-- A written file's block describes as the frame that it was written from, and its title reads as the same text.
use Rattle.std.specs.Prelude.{Option, None, Some, Ok, option_map}
use Rattle.scan.specs.Outcome.{present, ◌>>=◌}
use mathlib.Core.Path.{◌≡◌, refl, sym, ap, ◌∙◌}
use mathlib.Core.Bool.{true}
use mathlib.Core.List.{List, [], ◌∷◌, map}
use Prim.Native.Nat.{ℕ, ◌*◌, ◌≤◌}
use native.Mathlib.Omega.{arith}
use borrow.Author.Tests.{le-leb}
use lib.IntN.{pos}
use lib.ListN.{length, get_or, replicate, length-append}
use mir.Syntax.{w64}
use mir.Val.{SFits}
use Rattle.scan.specs.Byte.{ascii}
use Rattle.scan.proofs.Cases.{none_some}
use Rattle.text.specs.Decimal.{decimal}
use Rattle.text.specs.Text.{escaped_body, quoted_text, text_of, short_text}
use Rattle.text.proofs.Decimals.{decimal_back}
use Rattle.text.proofs.Everys.{Each}
use Rattle.text.proofs.Parts.{each_head, each_tail}
use Rattle.text.proofs.RoundTrip.{quotes-back, text_back}
use Rattle.header.specs.Entry.{Entry}
use Rattle.keyword.specs.Keyword.{lookup_in, entry_of, text_in}
use Rattle.keyword.specs.Viewing.{value_in}
use Rattle.raster.specs.Axis.{configurations}
use Rattle.raster.specs.Position.{product}
use Rattle.raster.specs.declared.types.Class.{Class}
use Rattle.raster.specs.declared.types.Class.TheVariants.{Unsigned as unsigned, Signed as signed, Float as float}
use Rattle.origins.specs.Fields.{by_name}
use Rattle.description.specs.Describe.{Values, dims_of, words_of, offset_allowed, described, description_in, description_of}
use Rattle.description.specs.Fields.{word_field, range_field, whole_field, found_first, dims_from}
use Rattle.description.proofs.DimLaws.{dims_by}
use Rattle.frame.specs.File.{frame_dims, frame_type, stored_pixels, file_data, keywords_of}
use Rattle.rendering.specs.Render.{padding, filled}
use Rattle.description.specs.Limits.{dim_limit}
use Rattle.text.specs.Text.{text_limit}
use Rattle.frame.specs.declared.Frame.{Frame}
use Rattle.frame.proofs.Allowed.{Within, Writes, dims_length, few_configurations}
use Rattle.frame.proofs.PixelLengths.{stored_length}
use Rattle.frame.proofs.Codes.{type_coded, order_coded}
use Rattle.readback.specs.Described.{written_origins, description_for}
use Rattle.readback.proofs.Keywords.{Dims, one, two, three}
use Rattle.readback.proofs.Origins.{written_origins_lem}
use Rattle.readback.proofs.Viewed.{Looks, view_with, dim_text, written_view, written_looks}
use Rattle.readback.proofs.Written.{Fits, values_of, row_of, dims_shape}

-- ---- The fields

-- A decimal in a range.
small : (n : ℕ) → n ≤ dim_limit → SFits w64 (pos n)
small n h = record { sfits = omega arith }

dims_read : (ds : List ℕ) → Each (Within 1 dim_limit) ds → dims_from (map (λ (d : ℕ). decimal (pos d)) ds) ≡ Ok ds
unfolding dims_from
dims_read [] h = refl
dims_read (d ∷ ds) h =
    let r = each_head h in
    rw (decimal_back (pos d) (small d r.high), le-leb 1 d r.low, le-leb d dim_limit r.high, dims_read ds (each_tail h))

dims_by_lem : {ds : List ℕ} → Dims ds → Each (Within 1 dim_limit) ds → dims_by (dim_text ds 0) (dim_text ds 1) (dim_text ds 2) None ≡ Ok ds
unfolding found_first
dims_by_lem (one a) h = rw (dims_read (a ∷ []) h)
dims_by_lem (two a b) h = rw (dims_read (a ∷ b ∷ []) h)
dims_by_lem (three a b c) h = rw (dims_read (a ∷ b ∷ c ∷ []) h)

no_offset : (c : Class) → offset_allowed c (pos 0) ≡ true
unfolding offset_allowed
no_offset unsigned = refl
no_offset signed = refl
no_offset float = refl

-- ---- The data

-- Filling makes them no shorter.
enough_data : (f : Frame) (pixels : List ℕ) → product (frame_dims f) * (frame_type f).width ≤ length (file_data f pixels)
unfolding file_data filled
enough_data f pixels = omega (arith, stored_length f pixels, length-append (stored_pixels f pixels) (replicate (padding (length (stored_pixels f pixels))) 0))

-- ---- The description

module _ {f : Frame} {title pixels s : List ℕ} (w : Writes f title pixels s) where
  abbrev look : Values
  look = value_in (view_with (row_of f title pixels) (keywords_of f title pixels))

  looked : Looks look (values_of f pixels) (frame_dims f) title
  looked = written_looks w

  words_are : words_of (by_name look) ≡ Ok (record { datatype = f.datatype; byteorder = f.byteorder; compression = 1 })
  unfolding words_of word_field
  words_are =
      rw (looked.type, (type_coded f.datatype w.allowed.datatype).code_is, looked.order, (order_coded f.byteorder w.allowed.byteorder).code_is, looked.compression)

  dims_are : dims_of look ≡ Ok (frame_dims f)
  unfolding dims_of
  dims_are =
      (λ i. dims_by (looked.dim_1 i) (looked.dim_2 i) (looked.dim_3 i) (looked.no_fourth i)) ∙ dims_by_lem (dims_shape w) w.allowed.dims

  configuration_is : range_field 5 (configurations (length (frame_dims f))) 1 (look (ascii "DataRasterConfiguration")) ≡ Ok f.configuration
  unfolding range_field
  configuration_is =
      let c = w.allowed.configuration in
      let e : length (frame_dims f) ≡ f.n = dims_length w.allowed in
      let few = few_configurations f.n w.allowed.n in
      rw (
        looked.configuration,
        decimal_back (pos f.configuration) (small f.configuration (omega (arith, few, c.high))),
        le-leb 1 f.configuration c.low,
        le-leb f.configuration (configurations (length (frame_dims f))) (rw e c.high),
      )

  orientation_is : range_field 6 (configurations (length (frame_dims f))) 1 (look (ascii "RasterOrientation")) ≡ Ok 1
  unfolding range_field
  orientation_is = rw looked.orientation

  offset_is : whole_field 7 (pos 0) (look (ascii "DataValueOffset")) ≡ Ok (pos 0)
  unfolding whole_field
  offset_is = rw looked.offset

  described_is : described look written_origins (length (file_data f pixels)) ≡ Ok (description_for f)
  unfolding described
  described_is =
      let e : length (frame_dims f) ≡ f.n = dims_length w.allowed in
      rw (
        words_are,
        dims_are,
        configuration_is,
        orientation_is,
        offset_is,
        le-leb (product (frame_dims f) * (frame_type f).width) (length (file_data f pixels)) (enough_data f pixels),
        no_offset (frame_type f).class,
      )
      (λ i. Ok (record {
        datatype = f.datatype;
        byteorder = f.byteorder;
        compression = 1;
        n = e i;
        dim1 = get_or (frame_dims f) 0 1;
        dim2 = get_or (frame_dims f) 1 1;
        dim3 = get_or (frame_dims f) 2 1;
        configuration = f.configuration;
        orientation = 1;
        offset = pos 0;
        origins = written_origins;
      }))

  pub description_in_lem : description_in (view_with (row_of f title pixels) (keywords_of f title pixels)) ≡ Ok (description_for f)
  unfolding description_in
  description_in_lem = rw (written_origins_lem w) described_is

  module _ (fits : Fits f) where
    pub description_is : description_of s 0 ≡ Ok (description_for f)
    unfolding description_of
    description_is = rw (written_view w fits) description_in_lem

    -- ---- The title

    title_entry : (o : Option Entry) → option_map (λ (e : Entry). e.value) o ≡ Some (escaped_body title)
        → (present o 16 0 >>= (λ (e : Entry). short_text (text_of e.value))) ≡ Ok title
    unfolding short_text quoted_text
    title_entry None e = absurd (none_some e)
    title_entry (Some x) e =
        let value : x.value ≡ escaped_body title = cc in
        let text : text_of x.value ≡ title = ap text_of (value ∙ sym (quotes-back (escaped_body title))) ∙ text_back title in
        rw (text, le-leb (length title) text_limit w.short)

    pub title_is : text_in s 0 (ascii "Title") ≡ Ok title
    unfolding text_in entry_of
    title_is =
        rw (written_view w fits) (title_entry (lookup_in (view_with (row_of f title pixels) (keywords_of f title pixels)) (ascii "Title")) looked.title)
