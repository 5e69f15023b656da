-- The file that the writer makes has a partition of one block, with the frame's identity and the data's length.
use Rattle.std.specs.Prelude.{None, Some}
use mathlib.Core.Path.{◌≡◌, refl, sym, ap}
use mathlib.Core.Bool.{true}
use mathlib.Core.Logic.{inl}
use mathlib.Core.List.Memᴰ
use mathlib.Core.List.{List, [], ◌∷◌, ◌++◌}
use Prim.Native.Nat.{ℕ, ◌-◌, ◌≤◌}
use native.Mathlib.Omega.{arith}
use lib.IntN.{ℤ, pos}
use lib.ListN.{length, get_or, length-append}
use mir.Syntax.{w64}
use mir.Val.{SFits}
use Rattle.scan.specs.Byte.{same}
use Rattle.scan.proofs.Finds.{Finds, finds_has, finds_no}
use Rattle.text.specs.Decimal.{decimal}
use Rattle.text.specs.Fold.{fold}
use Rattle.text.specs.Key.{strip, key_of}
use Rattle.text.specs.Number.{whole_number}
use Rattle.text.specs.Text.{text_byte}
use Rattle.text.specs.Whitespace.{whitespace}
use Rattle.text.proofs.Decimals.{decimal_back, decimal-length}
use Rattle.text.proofs.Everys.{Each}
use Rattle.lexical.proofs.WholeLaws.{whole_sound}
use Rattle.text.proofs.Words.{decimal_word, word_read}
use Rattle.header.specs.Entries.{lookup, value_in}
use Rattle.header.specs.Entry.{Entry}
use Rattle.header.proofs.Laid.{entries_at}
use Rattle.blocks.specs.Grammar.{plain_rules, data-first, data_block, KeepsRules, HasHeader, IsBlock, Partition}
use Rattle.blocks.specs.IdentityText.{identity_text}
use Rattle.blocks.specs.Counting.{first, is_edf_key, counting, counting_in, size_value}
use Rattle.blocks.specs.Keys.{BlockIDKey, FileNameKey, HeaderSizeKey}
use Rattle.blocks.specs.Places.{kind_2, here, HasKey, CountsIn}
use Rattle.blocks.specs.Values.{NumberOr, LengthOrAbsent, IsIdentity}
use Rattle.blocks.specs.declared.Row.{Row}
use Rattle.blocks.proofs.Said.{keys_distinct}
use Rattle.blocks.proofs.FirstLaws.{heads_zero}
use Rattle.blocks.proofs.Coded.{kinds_differ, kind_reads, size-reads}
use Rattle.blocks.proofs.Gaps.{no_gap}
use Rattle.blocks.proofs.IdentityBack.{identity_back, identity_word, identity_length}
use Rattle.raster.specs.Types.{order_words}
use Rattle.frame.specs.File.{frame_dims, frame_type, file_data, keywords_of, file_of}
use Rattle.rendering.specs.Render.{rendered_header}
use Rattle.blocks.specs.Limits.{file_limit}
use Rattle.text.specs.Text.{text_limit}
use Rattle.frame.specs.declared.Frame.{Frame}
use Rattle.frame.proofs.Allowed.{Writes}
use Rattle.frame.proofs.Codes.{type_coded, order_coded}
use Rattle.readback.proofs.Keywords.{Values, ShortWord, AreWords, Dims, some_dims, keywords_with, keywords_render}
use Rattle.rendering.proofs.Rendered.{MayRender, header_for, statements_for, entries_for, rendered_stands, rendered_multiple}

-- ---- The keys for blocks, by computing

module _ (v : Values) (ds t : List ℕ) where
  abbrev said : List Entry
  said = entries_for (keywords_with v ds t)

  module _ (w : AreWords v) where
    first_key : HasKey said 0 BlockIDKey v.identity
    unfolding entries_at key_of strip fold whitespace
    first_key = record { entry = first said; at = here; key_is = refl; value_is = word_read v.identity w.identity.is_word }

    size_value_lem : size_value 2 said ≡ Some v.size
    unfolding entries_at size_value counting is_edf_key lookup same key_of strip fold whitespace
    size_value_lem = ap Some (word_read v.size w.size.is_word)

  no_file_name : value_in FileNameKey (counting_in 2 said) ≡ None
  unfolding entries_at counting_in counting is_edf_key lookup same key_of strip fold whitespace
  no_file_name = refl

  no_header_size : value_in HeaderSizeKey (counting_in 2 said) ≡ None
  unfolding entries_at counting_in counting is_edf_key lookup same key_of strip fold whitespace
  no_header_size = refl

-- ---- A rendered header and data

-- A row for it, with an identity.
abbrev pub row_with : ℕ → ℕ → ℤ → ℕ → ℤ → Row
row_with header size a b c =
    record { start = 0; header = header; size = size; kind = 1; sequence = a; instance = b; memory = c }

module _ (v : Values) (t l : List ℕ) {ds : List ℕ} (d : Dims ds) (w : AreWords v) (text : Each (λ b. text_byte b ≡ true) t) (short : length t ≤ text_limit)
    {a c : ℤ} {b : ℕ} (identity : IsIdentity v.identity a b c) (size : whole_number v.size ≡ Some (pos (length l))) where
  abbrev header : List ℕ
  header = rendered_header (keywords_with v ds t)

  stands : HasHeader (header ++ l) 0 (header_for (keywords_with v ds t)) (statements_for (keywords_with v ds t)) (entries_for (keywords_with v ds t))
  stands = rendered_stands (keywords_with v ds t) l (keywords_render v t d w text short)

  keeps : KeepsRules (plain_rules kind_2) 0 (entries_for (keywords_with v ds t)) (row_with (length header) (length l) a b c)
  keeps =
      let keys = keys_distinct stands in
      let counted : (key : List ℕ) → Finds (CountsIn kind_2 (said v ds t) key) (value_in key (counting_in 2 (said v ds t))) =
      λ key. (kind_reads keys kind_2 key).finds in
      record {
        role = data_block refl (inl refl) refl (first_key v ds t w) identity;
        size = NumberOr.given (finds_has (size-reads keys kind_2).finds (size_value_lem v ds t w)) (whole_sound v.size size) (omega arith);
        no_file_name = finds_no (counted FileNameKey) (no_file_name v ds t);
        multiple = rendered_multiple (keywords_with v ds t);
        header_size = LengthOrAbsent.absent (finds_no (counted HeaderSizeKey) (no_header_size v ds t));
      }

  block : IsBlock (header ++ l) (plain_rules kind_2) 0 (row_with (length header) (length l) a b c) (length (header ++ l))
  block =
      record {
        header = header_for (keywords_with v ds t);
        statements = statements_for (keywords_with v ds t);
        entries = entries_for (keywords_with v ds t);
        stands = stands;
        brace = λ q. absurd (kinds_differ (sym q));
        starts = refl;
        length_is = refl;
        rules = keeps;
        ends = omega (arith, length-append header l);
        inside = omega arith;
      }

  one_block : Partition (header ++ l) (row_with (length header) (length l) a b c ∷ [])
  one_block =
      record {
        rules = plain_rules kind_2;
        first_header = record { entries = entries_for (keywords_with v ds t); heads = heads_zero stands; declares = data-first (first_key v ds t w) refl };
        blocks = (length (header ++ l), record { gap = no_gap 0; block = block }, no_gap (length (header ++ l)));
        not_empty = omega arith;
        few = omega arith;
        identities = λ k. ((λ y m x. Memᴰ.not-nil m), tt);
        count = tt;
      }

-- ---- The writer's file

-- The numbers of an identity are numbers of 64 bits.
pub record Fits (f : Frame) : Type 0 where
  pub sequence : SFits w64 f.sequence
  pub memory : SFits w64 f.memory

abbrev pub values_of : Frame → List ℕ → Values
values_of f pixels =
    record {
      identity = identity_text f.sequence f.instance f.memory;
      size = decimal (pos (length (file_data f pixels)));
      order = get_or order_words (f.byteorder - 1) [];
      type = (frame_type f).word;
      configuration = decimal (pos f.configuration);
    }

-- These are what is written, EDF_BinarySize with the filling and the title in quotes.
pub keywords_are : (f : Frame) (title pixels : List ℕ) → keywords_of f title pixels ≡ keywords_with (values_of f pixels) (frame_dims f) title
unfolding keywords_of
keywords_are f title pixels = refl

-- Its only row.
abbrev pub row_of : Frame → List ℕ → List ℕ → Row
row_of f title pixels =
    row_with (length (rendered_header (keywords_of f title pixels))) (length (file_data f pixels)) f.sequence f.instance f.memory

module _ {f : Frame} {title pixels s : List ℕ} (w : Writes f title pixels s) where
  pub dims_shape : Dims (frame_dims f)
  dims_shape = some_dims f.n f.dim1 f.dim2 f.dim3 w.allowed.n

  decimal_short : (z : ℤ) → ShortWord (decimal z)
  decimal_short z = record { is_word = decimal_word z; short = omega (arith, decimal-length z) }

  identity_short : ShortWord (identity_text f.sequence f.instance f.memory)
  identity_short =
      let m = w.allowed.memory in
      rw m.is (record {
        is_word = identity_word f.sequence f.instance m.number;
        short = omega (arith, identity_length f.sequence f.instance m.number);
      })

  pub values_words : AreWords (values_of f pixels)
  values_words =
      let order = order_coded f.byteorder w.allowed.byteorder in
      let type = type_coded f.datatype w.allowed.datatype in
      record {
        identity = identity_short;
        size = decimal_short (pos (length (file_data f pixels)));
        order = record { is_word = order.is_word; short = omega (arith, order.short) };
        type = record { is_word = type.is_word; short = omega (arith, type.short) };
        configuration = decimal_short (pos f.configuration);
      }

  pub written_renders : MayRender (keywords_of f title pixels)
  written_renders = rw (keywords_are f title pixels) (keywords_render (values_of f pixels) title dims_shape values_words w.text w.short)

  pub data_small : length (file_data f pixels) ≤ file_limit
  unfolding file_of
  data_small = omega (arith, w.small, length-append (rendered_header (keywords_of f title pixels)) (file_data f pixels))

  module _ (fits : Fits f) where
    identity_is : IsIdentity (identity_text f.sequence f.instance f.memory) f.sequence f.instance f.memory
    identity_is =
        let m = w.allowed.memory in
        let i = w.allowed.instance in
        rw m.is (identity_back f.sequence f.instance m.number fits.sequence (rw m.is at fits.memory) i.low i.high m.some)

    pub partition : Partition s (row_of f title pixels ∷ [])
    unfolding file_of
    partition =
        rw (w.is, keywords_are f title pixels) (one_block (values_of f pixels) title (file_data f pixels) dims_shape values_words w.text w.short
        identity_is (decimal_back (pos (length (file_data f pixels))) (record { sfits = omega (arith, data_small) })))
