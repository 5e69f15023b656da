-- The header that the writer makes, piece by piece.
use mathlib.Core.Path.{◌≡◌, sym, ap, ◌∙◌}
use mathlib.Core.List.{List, [], ◌∷◌, ◌++◌, append_assoc, append-nil}
use Prim.Native.Nat.{ℕ, ◌+◌, ◌-◌, ◌≤◌}
use native.Mathlib.Omega.{arith}
use lib.IntN.{ℤ, pos}
use lib.ListN.{length, get_or, replicate, length-append, length-replicate}
use Rattle.scan.specs.Byte.{ascii}
use Rattle.text.specs.Decimal.{decimal}
use Rattle.text.specs.Text.{quoted_text}
use Rattle.blocks.specs.IdentityText.{identity_text}
use Rattle.raster.specs.Types.{order_words}
use Rattle.frame.specs.File.{frame_dims, frame_type, file_data, keywords_of}
use Rattle.writer.specs.Front.{leading, front, titled, closed}
use Rattle.rendering.specs.Render.{keyword, dim_keywords, Keyword, line, lines, padding, opening, rendered_header}
use Rattle.rendering.proofs.LineLaws.{lines-append}
use Rattle.rendering.proofs.Padding.{padding_multiple}
use Rattle.frame.specs.declared.Frame.{Frame}

five : (a b c d e g : List ℕ) → ((((a ++ b) ++ c) ++ d) ++ e) ++ g ≡ a ++ (b ++ (c ++ (d ++ (e ++ g))))
five a b c d e g =
    append_assoc (((a ++ b) ++ c) ++ d) e g ∙ append_assoc ((a ++ b) ++ c) d (e ++ g) ∙ append_assoc (a ++ b) c (d ++ (e ++ g))
    ∙ append_assoc a b (c ++ (d ++ (e ++ g)))

module _ (f : Frame) (size : ℕ) {a m : ℤ} (same : a ≡ f.sequence) (kept : m ≡ f.memory) where
  abbrev last : Keyword
  last = keyword (ascii "DataRasterConfiguration") (decimal (pos f.configuration))

  pub leading_is : ((((line (keyword (ascii "EDF_DataBlockID") (identity_text a f.instance m))
      ++ line (keyword (ascii "EDF_BinarySize") (decimal (pos size))))
      ++ line (keyword (ascii "ByteOrder") (get_or order_words (f.byteorder - 1) [])))
      ++ line (keyword (ascii "DataType") (frame_type f).word))
      ++ lines (dim_keywords 1 (frame_dims f))) ++ line last ≡ lines (leading f size)
  unfolding leading lines
  leading_is =
      five (line (keyword (ascii "EDF_DataBlockID") (identity_text a f.instance m))) _ _ _ (lines (dim_keywords 1 (frame_dims f))) (line last)
      ∙ (λ i. line (keyword (ascii "EDF_DataBlockID") (identity_text (same i) f.instance (kept i)))
      ++ (line (keyword (ascii "EDF_BinarySize") (decimal (pos size)))
      ++ (line (keyword (ascii "ByteOrder") (get_or order_words (f.byteorder - 1) []))
      ++ (line (keyword (ascii "DataType") (frame_type f).word) ++ rest i))))
    where
      rest : lines (dim_keywords 1 (frame_dims f)) ++ line last ≡ lines (dim_keywords 1 (frame_dims f) ++ (last ∷ []))
      rest =
          ap (λ (l : List ℕ). lines (dim_keywords 1 (frame_dims f)) ++ l) (sym (append-nil (line last)))
          ∙ sym (lines-append (dim_keywords 1 (frame_dims f)) (last ∷ []))

pub front_is : (f : Frame) (size : ℕ) → (ascii "{\r\n" ++ lines (leading f size)) ++ ascii "Title = " ≡ front f size
unfolding front
front_is f size = append_assoc (ascii "{\r\n") (lines (leading f size)) (ascii "Title = ")

module _ (first title : List ℕ) where
  pub titled_is : (first ++ quoted_text title) ++ ascii " ;\r\n" ≡ titled first title
  unfolding titled
  titled_is = append_assoc first (quoted_text title) (ascii " ;\r\n")

  pub titled-length : length (titled first title) ≡ length first + length (quoted_text title) + 4
  unfolding titled
  titled-length = simp length-append (omega arith)

module _ (l : List ℕ) where
  pub closed_is : (k : ℕ) → k ≡ padding (length l + 4) → (l ++ replicate k 32) ++ ascii "\r\n}\n" ≡ closed l
  unfolding closed
  closed_is k e = append_assoc l (replicate k 32) (ascii "\r\n}\n") ∙ ap (λ (n : ℕ). l ++ (replicate n 32 ++ ascii "\r\n}\n")) e

  pub closed-length : length (closed l) ≡ length l + padding (length l + 4) + 4
  unfolding closed
  closed-length = simp (length-append, length-replicate) (omega arith)

  -- No header is shorter than 512 bytes.
  pub closed_least : 512 ≤ length (closed l)
  closed_least = let m = padding_multiple (length l + 4) in omega (arith, m.1, closed-length)

-- ---- The header of a file

module _ (f : Frame) (title pixels : List ℕ) where
  abbrev before : List Keyword
  before = leading f (length (file_data f pixels))

  abbrev title_line : Keyword
  title_line = keyword (ascii "Title") (quoted_text title)

  split : keywords_of f title pixels ≡ before ++ (title_line ∷ [])
  unfolding keywords_of leading
  split =
      ap (λ (ks : List Keyword). keyword (ascii "EDF_DataBlockID") (identity_text f.sequence f.instance f.memory)
      ∷ keyword (ascii "EDF_BinarySize") (decimal (pos (length (file_data f pixels))))
      ∷ keyword (ascii "ByteOrder") (get_or order_words (f.byteorder - 1) []) ∷ keyword (ascii "DataType") (frame_type f).word ∷ ks)
      (sym (append_assoc (dim_keywords 1 (frame_dims f)) (keyword (ascii "DataRasterConfiguration") (decimal (pos f.configuration)) ∷ []) (title_line ∷ [])))

  opens : titled (front f (length (file_data f pixels))) title ≡ opening (keywords_of f title pixels)
  unfolding titled front opening lines line
  opens =
      let q = quoted_text title ++ ascii " ;\r\n" in
      append_assoc (ascii "{\r\n") (lines before ++ ascii "Title = ") q
      ∙ ap (λ (l : List ℕ). ascii "{\r\n" ++ l)
      (append_assoc (lines before) (ascii "Title = ") q ∙ ap (λ (l : List ℕ). lines before ++ l) (sym (append-nil (ascii "Title = " ++ q)))
      ∙ sym (lines-append before (title_line ∷ [])) ∙ ap lines (sym split))

  pub header_is : closed (titled (front f (length (file_data f pixels))) title) ≡ rendered_header (keywords_of f title pixels)
  unfolding closed rendered_header
  header_is = ap (λ (l : List ℕ). l ++ (replicate (padding (length l + 4)) 32 ++ ascii "\r\n}\n")) opens
