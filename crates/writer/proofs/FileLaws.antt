-- The file that the writer makes, and how long it is.
use Rattle.std.specs.Prelude.{Option, None, Some}
use mathlib.Core.Path.{◌≡◌, refl, ap, ◌∙◌}
use mathlib.Core.List.{List, [], ◌∷◌, ◌++◌}
use Prim.Native.Nat.{ℕ, suc, ◌+◌, ◌≤◌}
use native.Mathlib.Omega.{arith}
use lib.ListN.{length, length-append}
use Rattle.text.specs.Text.{escape_with, escaped_body, quoted_text}
use Rattle.text.specs.Escapes.{letter}
use Rattle.rendering.specs.Render.{rendered_header}
use Rattle.frame.specs.File.{file_data, file_of, keywords_of}
use Rattle.frame.specs.declared.Frame.{Frame}
use Rattle.writer.specs.Front.{front, titled, closed}
use Rattle.writer.proofs.HeaderLaws.{titled-length, closed-length, header_is}

-- Escaped text is no shorter.
escape_least : (b : ℕ) (o : Option ℕ) (t r : List ℕ) → length t ≤ length r → suc (length t) ≤ length (escape_with b o r)
escape_least b None t r h = omega arith
escape_least b (Some c) t r h = omega arith

body_least : (t : List ℕ) → length t ≤ length (escaped_body t)
unfolding escaped_body
body_least [] = omega arith
body_least (b ∷ t) = escape_least b (letter b) t (escaped_body t) (body_least t)

module _ (f : Frame) (title pixels : List ℕ) where
  abbrev first_part : List ℕ
  first_part = front f (length (file_data f pixels))

  pub file_is : closed (titled first_part title) ++ file_data f pixels ≡ file_of f title pixels
  unfolding file_of
  file_is = ap (λ (l : List ℕ). l ++ file_data f pixels) (header_is f title pixels)

  -- The same of the bytes of a front.
  pub file_made : {size : ℕ} {first : List ℕ} → size ≡ length (file_data f pixels) → first ≡ front f size
      → closed (titled first title) ++ file_data f pixels ≡ file_of f title pixels
  file_made q e = ap (λ (l : List ℕ). closed (titled l title) ++ file_data f pixels) (e ∙ ap (front f) q) ∙ file_is

  -- Its length is that of its header and that of its data.
  module _ {size : ℕ} (q : size ≡ length (file_data f pixels)) where
    pub total_length : {n : ℕ} → n ≡ length (closed (titled (front f size) title)) → n + size ≡ length (file_of f title pixels)
    total_length e =
        omega (arith, e, q, ap length (file_made q refl), length-append (closed (titled (front f size) title)) (file_data f pixels))

  pub data_within : length (file_data f pixels) ≤ length (file_of f title pixels)
  unfolding file_of
  data_within = omega (arith, length-append (rendered_header (keywords_of f title pixels)) (file_data f pixels))

  pub title_within : length title ≤ length (file_of f title pixels)
  unfolding quoted_text
  title_within =
      let whole = titled first_part title in
      omega (
        arith,
        ap length file_is,
        length-append (closed whole) (file_data f pixels),
        closed-length whole,
        titled-length first_part title,
        body_least title,
        length-append (escaped_body title) (34 ∷ []),
      )
