-- Quoted text: its bytes may stand between `=` and `;`, and it is at most twice as long as the text, with two quotes.
use Rattle.std.specs.Prelude.{Option, None, Some}
use mathlib.Core.Path.{◌≡◌, refl}
use mathlib.Core.Bool.{true}
use mathlib.Core.List.{List, [], ◌∷◌}
use Prim.Native.Nat.{ℕ, ◌+◌, ◌*◌, ◌≤◌}
use native.Mathlib.Omega.{arith}
use lib.Dec.{eqb}
use lib.ListN.{length, length-append}
use Rattle.scan.proofs.Cases.{by_test}
use Rattle.text.specs.Escapes.{letter, letters, lookup_byte}
use Rattle.text.specs.Text.{text_byte, value_byte, escape_with, escaped_body, quoted_text}
use Rattle.text.proofs.Escaping.{at_most_twice}
use Rattle.text.proofs.Everys.{Each}
use Rattle.text.proofs.Parts.{each_nil, each_cons, each_append, each_head, each_tail}

abbrev IsValueByte : ℕ → Type 0
IsValueByte b = value_byte b ≡ true

-- A letter may stand in a value, and so may a byte of text that has none.
abbrev LetterSays : ℕ → Option ℕ → Type 0
LetterSays b None = text_byte b ≡ true → IsValueByte b
LetterSays b (Some c) = IsValueByte c

letter_says : (b : ℕ) → LetterSays b (letter b)
unfolding letter letters lookup_byte value_byte text_byte
letter_says b =
    by_test (eqb b 92) (λ e. rw e refl)
    (λ backslash. by_test (eqb b 10) (λ e. rw (backslash, e) refl)
    (λ lf. by_test (eqb b 13) (λ e. rw (backslash, lf, e) refl)
    (λ cr. by_test (eqb b 123) (λ e. rw (backslash, lf, cr, e) refl)
    (λ left. by_test (eqb b 125) (λ e. rw (backslash, lf, cr, left, e) refl)
    (λ right. by_test (eqb b 59) (λ e. rw (backslash, lf, cr, left, right, e) refl)
    (λ semicolon. rw (backslash, lf, cr, left, right, semicolon) (λ h. rw (left, right, semicolon, h))))))))

one_bytes : (b : ℕ) (o : Option ℕ) (rest : List ℕ) → LetterSays b o → text_byte b ≡ true → Each IsValueByte rest
    → Each IsValueByte (escape_with b o rest)
unfolding value_byte
one_bytes b None rest h t more = each_cons (h t) more
one_bytes b (Some c) rest h t more = each_cons refl (each_cons h more)

body_bytes : (t : List ℕ) → Each (λ b. text_byte b ≡ true) t → Each IsValueByte (escaped_body t)
unfolding escaped_body
body_bytes [] h = each_nil IsValueByte
body_bytes (b ∷ t) h = one_bytes b (letter b) (escaped_body t) (letter_says b) (each_head h) (body_bytes t (each_tail h))

pub quoted_bytes : (t : List ℕ) → Each (λ b. text_byte b ≡ true) t → Each (λ b. value_byte b ≡ true) (quoted_text t)
unfolding quoted_text value_byte
quoted_bytes t h = each_cons refl (each_append (body_bytes t h) (each_cons refl (each_nil IsValueByte)))

pub quoted_length : (t : List ℕ) → length (quoted_text t) ≤ 2 * length t + 2
unfolding quoted_text
quoted_length t = omega (arith, length-append (escaped_body t) (34 ∷ []), at_most_twice t)
