-- A written file's block as its keywords are looked up, and the values of the fields that are looked up in it.
use Rattle.std.specs.Prelude.{Option, None, Some, option_map, Ok, slice_get}
use mathlib.Core.Path.{◌≡◌, refl, ap, ◌∙◌}
use mathlib.Core.List.{List, [], ◌∷◌, ◌++◌}
use Prim.Native.Nat.{ℕ}
use lib.IntN.{pos}
use Rattle.scan.specs.Byte.{ascii, same}
use Rattle.text.specs.Decimal.{digits_of, decimal}
use Rattle.text.specs.Fold.{fold}
use Rattle.text.specs.Key.{strip, key_of}
use Rattle.text.specs.Text.{quoted_text, escaped_body}
use Rattle.text.specs.Whitespace.{whitespace}
use Rattle.text.specs.Value.{value_of}
use Rattle.text.proofs.Padding.{spaced, quoted_value}
use Rattle.text.proofs.Words.{decimal_word, word_read}
use Rattle.header.specs.Entries.{lookup}
use Rattle.header.proofs.FrameLaws.{header_complete}
use Rattle.header.proofs.Laid.{entries_at}
use Rattle.header.proofs.StatementLaws.{statements_complete}
use Rattle.blocks.specs.Counting.{is_edf_key}
use Rattle.blocks.specs.Opening.{opened_file}
use Rattle.blocks.specs.declared.Row.{Row}
use Rattle.blocks.proofs.Answers.{within_limit}
use Rattle.blocks.proofs.Complete.{opened_complete}
use Rattle.keyword.specs.Keyword.{View, view_of, lookup_in, general_entries}
use Rattle.keyword.specs.Viewing.{value_in}
use Rattle.keyword.specs.Keyword as keyword
use Rattle.description.specs.Describe as array
use Rattle.frame.specs.File.{frame_dims, file_data, keywords_of, file_of}
use Rattle.rendering.specs.Render.{dim_keywords, Keyword, rendered_header}
use Rattle.frame.specs.declared.Frame.{Frame}
use Rattle.frame.proofs.Allowed.{Writes}
use Rattle.readback.proofs.Keywords.{Values, AreWords, Dims, one, two, three, keywords_with}
use Rattle.rendering.proofs.Rendered.{MayRender, header_for, entries_for, rendered_stands, rendered_entries}
use Rattle.readback.proofs.Written.{Fits, values_of, row_of, keywords_are, dims_shape, values_words, written_renders, partition}

-- ---- What is looked up

-- A block with these keywords, and no general header.
abbrev pub view_with : Row → List Keyword → View
view_with row ks = record { row = row; own = entries_for ks; general = [] }

-- The text of a Dim, if it is there.
abbrev pub dim_text : List ℕ → ℕ → Option (List ℕ)
dim_text ds k = option_map (λ (d : ℕ). decimal (pos d)) (slice_get ds k)

pub record Looks (look : array.Values) (v : Values) (ds t : List ℕ) : Type 0 where
  pub type : look (ascii "DataType") ≡ Some v.type
  pub order : look (ascii "ByteOrder") ≡ Some v.order
  pub compression : look (ascii "Compression") ≡ None
  pub dim_1 : look (ascii "Dim_1") ≡ dim_text ds 0
  pub dim_2 : look (ascii "Dim_2") ≡ dim_text ds 1
  pub dim_3 : look (ascii "Dim_3") ≡ dim_text ds 2
  pub no_fourth : look (ascii "Dim_4") ≡ None
  pub configuration : look (ascii "DataRasterConfiguration") ≡ Some v.configuration
  pub orientation : look (ascii "RasterOrientation") ≡ None
  pub offset : look (ascii "DataValueOffset") ≡ None
  pub title : look (ascii "Title") ≡ Some (escaped_body t)

-- The keywords of the Dims, with their keys written out.
abbrev pub dim_named : {ds : List ℕ} → Dims ds → List Keyword
dim_named (one a) = record { key = ascii "Dim_1"; value = decimal (pos a) } ∷ []
dim_named (two a b) = record { key = ascii "Dim_1"; value = decimal (pos a) } ∷ record { key = ascii "Dim_2"; value = decimal (pos b) } ∷ []
dim_named (three a b c) =
    record { key = ascii "Dim_1"; value = decimal (pos a) } ∷ record { key = ascii "Dim_2"; value = decimal (pos b) }
    ∷ record { key = ascii "Dim_3"; value = decimal (pos c) } ∷ []

pub dim_keywords_lem : {ds : List ℕ} (d : Dims ds) → dim_keywords 1 ds ≡ dim_named d
unfolding dim_keywords decimal digits_of
dim_keywords_lem (one a) = refl
dim_keywords_lem (two a b) = refl
dim_keywords_lem (three a b c) = refl

dim_read_lem : (a : ℕ) → value_of (spaced (decimal (pos a))) ≡ decimal (pos a)
dim_read_lem a = word_read (decimal (pos a)) (decimal_word (pos a))

-- By computing, for one to three Dims.
pub looks : (row : Row) (v : Values) (t : List ℕ) {ds : List ℕ} → Dims ds → AreWords v
    → Looks (value_in (view_with row (keywords_with v ds t))) v ds t
unfolding lookup_in lookup is_edf_key same key_of strip fold whitespace entries_at quoted_text
looks row v t (one a) w =
    rw (dim_keywords_lem (one a)) (record {
      type = ap Some (word_read v.type w.type.is_word);
      order = ap Some (word_read v.order w.order.is_word);
      compression = refl;
      dim_1 = ap Some (dim_read_lem a);
      dim_2 = refl;
      dim_3 = refl;
      no_fourth = refl;
      configuration = ap Some (word_read v.configuration w.configuration.is_word);
      orientation = refl;
      offset = refl;
      title = ap Some (quoted_value (escaped_body t));
    })
looks row v t (two a b) w =
    rw (dim_keywords_lem (two a b)) (record {
      type = ap Some (word_read v.type w.type.is_word);
      order = ap Some (word_read v.order w.order.is_word);
      compression = refl;
      dim_1 = ap Some (dim_read_lem a);
      dim_2 = ap Some (dim_read_lem b);
      dim_3 = refl;
      no_fourth = refl;
      configuration = ap Some (word_read v.configuration w.configuration.is_word);
      orientation = refl;
      offset = refl;
      title = ap Some (quoted_value (escaped_body t));
    })
looks row v t (three a b c) w =
    rw (dim_keywords_lem (three a b c)) (record {
      type = ap Some (word_read v.type w.type.is_word);
      order = ap Some (word_read v.order w.order.is_word);
      compression = refl;
      dim_1 = ap Some (dim_read_lem a);
      dim_2 = ap Some (dim_read_lem b);
      dim_3 = ap Some (dim_read_lem c);
      no_fourth = refl;
      configuration = ap Some (word_read v.configuration w.configuration.is_word);
      orientation = refl;
      offset = refl;
      title = ap Some (quoted_value (escaped_body t));
    })

-- ---- The view

-- Of a rendered header and data that open as one data block.
rendered_view : (ks : List Keyword) (l : List ℕ) → MayRender ks → (row : Row) → row.start ≡ 0 → row.kind ≡ 1
    → opened_file (rendered_header ks ++ l) ≡ Ok (row ∷ []) → view_of (rendered_header ks ++ l) 0 ≡ Ok (view_with row ks)
unfolding view_of keyword.entries_at general_entries
rendered_view ks l h row at kind e =
    let stands = rendered_stands ks l h in
    rw (
      e,
      at,
      header_complete stands.header,
      statements_complete (rendered_header ks ++ l) 0 (header_for ks) stands.parse,
      rendered_entries ks l,
      kind,
    )

module _ {f : Frame} {title pixels s : List ℕ} (w : Writes f title pixels s) where
  pub written_view : Fits f → view_of s 0 ≡ Ok (view_with (row_of f title pixels) (keywords_of f title pixels))
  unfolding file_of
  written_view fits =
      let opens : opened_file s ≡ Ok (row_of f title pixels ∷ []) =
      within_limit s (rw w.is w.small) ∙ opened_complete s (partition w fits) in
      rw w.is (rendered_view (keywords_of f title pixels) (file_data f pixels) (written_renders w) (row_of f title pixels) refl refl (rw w.is at opens))

  -- The fields that are looked up in it.
  pub written_looks : Looks (value_in (view_with (row_of f title pixels) (keywords_of f title pixels))) (values_of f pixels) (frame_dims f) title
  written_looks = rw (keywords_are f title pixels) (looks _ (values_of f pixels) title (dims_shape w) (values_words w))
