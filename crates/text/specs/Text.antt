-- Text out of a value, and text put into value form.
use Rattle.std.specs.Prelude.{Bool, true, false, cond, not, ◌&&◌, ◌||◌, List, [], ◌∷◌, ◌++◌, ℕ, eqb, leb, length, Option, None, Some, Ok}
use Rattle.scan.specs.Outcome.{Outcome, refused, require, ◌>>◌}
use Rattle.text.specs.Escapes.{meaning, letter}
use Rattle.text.specs.Value.{value_of}

abbrev pub every : {A : Type 0} → (A → Bool) → List A → Bool
every p [] = true
every p (x ∷ xs) = p x && every p xs

-- ---- From a value

-- "drop raw CR and LF"
unfoldable pub without_line_breaks : List ℕ → List ℕ
without_line_breaks [] = []
without_line_breaks (b ∷ bs) = let r = without_line_breaks bs in cond (eqb b 10 || eqb b 13) r (b ∷ r)

-- The escapes replaced; the flag says that a backslash stands before. "a last lone backslash vanishes"
unfoldable pub unescaped_after : Bool → List ℕ → List ℕ
unescaped_after escaped [] = []
unescaped_after true (b ∷ bs) = meaning b ∷ unescaped_after false bs
unescaped_after false (b ∷ bs) = let r = unescaped_after (eqb b 92) bs in cond (eqb b 92) r (b ∷ r)

-- The text of a value.
unfoldable pub text_of : List ℕ → List ℕ
text_of value = unescaped_after false (without_line_breaks value)

-- "At most 1,023 characters": else error 25.
abbrev pub text_limit : ℕ
text_limit = 1023

unfoldable pub short_text : List ℕ → Outcome (List ℕ)
short_text t = cond (leb (length t) text_limit) (Ok t) (refused 25 0)

-- A byte that may stand between `=` and `;`: 1 to 127, no brace and no `;`.
unfoldable pub value_byte : ℕ → Bool
value_byte b = leb 1 b && leb b 127 && not (eqb b 123 || eqb b 125 || eqb b 59)

-- Unescape (01: back): "takes bytes of any length that may stand between `=` and `;`, and itself trims and unquotes
-- them first." Errors 24, then 25.
unfoldable pub unescaped : List ℕ → Outcome (List ℕ)
unescaped l = require (every value_byte l) 24 0 >> short_text (text_of (value_of l))

-- ---- Into value form

abbrev pub escape_with : ℕ → Option ℕ → List ℕ → List ℕ
escape_with b None rest = b ∷ rest
escape_with b (Some c) rest = 92 ∷ c ∷ rest

unfoldable pub escaped_body : List ℕ → List ℕ
escaped_body [] = []
escaped_body (b ∷ bs) = escape_with b (letter b) (escaped_body bs)

-- "`"`, the characters, `"`"
unfoldable pub quoted_text : List ℕ → List ℕ
quoted_text t = 34 ∷ escaped_body t ++ (34 ∷ [])

-- A byte of text: 1 to 127.
unfoldable pub text_byte : ℕ → Bool
text_byte b = leb 1 b && leb b 127

-- Escape (01: to value form): errors 24 for a byte that can't stand there, then 25.
unfoldable pub escaped : List ℕ → Outcome (List ℕ)
escaped t = require (every text_byte t) 24 0 >> (short_text t >> Ok (quoted_text t))
