-- "Text of 0 to 1,023 bytes from 1 to 127 comes back the same." It does for any list of bytes.
use Rattle.std.specs.Prelude.{Option, None, Some}
use mathlib.Core.Path.{◌≡◌, refl, sym, ap}
use mathlib.Core.Bool.{false}
use mathlib.Core.List.{List, [], ◌∷◌, ◌++◌}
use Prim.Native.Nat.{ℕ, suc, ◌+◌, ◌-◌}
use native.Mathlib.Omega.{arith}
use borrow.Author.Tests.{eqb-true, lt-ltb}
use lib.Dec.{eqb}
use lib.ListN.{length, length-append}
use lib.Seq.{get_or-append_seam, take-append_seam}
use Rattle.scan.specs.Byte.{byte}
use Rattle.scan.proofs.Cases.{by_test}
use Rattle.text.specs.Escapes.{letter, letters, lookup_byte, meaning, meanings}
use Rattle.text.specs.Text.{escape_with, escaped_body, quoted_text, text_of, unescaped_after, without_line_breaks}
use Rattle.text.specs.Value.{leading, trimmed_end, trimmed, without_opening_quote, without_closing_quote, value_span, value_of}
use Rattle.text.specs.Whitespace.{whitespace}

-- ---- Escapes

-- What the letter of a byte says: it means that byte and is no line break; a byte with none is no backslash and no line break.
abbrev LetterSays : ℕ → Option ℕ → Type 0
LetterSays b None = (eqb b 92 ≡ false) × (eqb b 10 ≡ false) × (eqb b 13 ≡ false)
LetterSays b (Some c) = (meaning c ≡ b) × (eqb c 10 ≡ false) × (eqb c 13 ≡ false)

letter_says : (b : ℕ) → LetterSays b (letter b)
unfolding letter letters lookup_byte meaning meanings
letter_says b =
    by_test (eqb b 92) (λ e. rw e (sym (eqb-true b 92 e), refl, refl))
    (λ backslash. by_test (eqb b 10) (λ e. rw (backslash, e) (sym (eqb-true b 10 e), refl, refl))
    (λ lf. by_test (eqb b 13) (λ e. rw (backslash, lf, e) (sym (eqb-true b 13 e), refl, refl))
    (λ cr. by_test (eqb b 123) (λ e. rw (backslash, lf, cr, e) (sym (eqb-true b 123 e), refl, refl))
    (λ left. by_test (eqb b 125) (λ e. rw (backslash, lf, cr, left, e) (sym (eqb-true b 125 e), refl, refl))
    (λ right. by_test (eqb b 59) (λ e. rw (backslash, lf, cr, left, right, e) (sym (eqb-true b 59 e), refl, refl))
    (λ semicolon. rw (backslash, lf, cr, left, right, semicolon) (backslash, lf, cr)))))))

-- One byte escaped in front of escaped text comes back in front of that text.
one_back : (b : ℕ) (o : Option ℕ) → LetterSays b o → (rest t : List ℕ)
    → unescaped_after false (without_line_breaks rest) ≡ t
    → unescaped_after false (without_line_breaks (escape_with b o rest)) ≡ b ∷ t
unfolding unescaped_after without_line_breaks
one_back b None h rest t e = rw (h.1, h.2, h.0) (ap (λ (l : List ℕ). b ∷ l) e)
one_back b (Some c) h rest t e = rw (h.1, h.2) (cc (h.0, e))

escapes_back : (t : List ℕ) → unescaped_after false (without_line_breaks (escaped_body t)) ≡ t
unfolding escaped_body unescaped_after without_line_breaks
escapes_back [] = refl
escapes_back (b ∷ t) = one_back b (letter b) (letter_says b) (escaped_body t) t (escapes_back t)

-- ---- Quotes

-- Bytes between quotes.
abbrev in_quotes : List ℕ → List ℕ
in_quotes l = 34 ∷ l ++ (34 ∷ [])

module _ (l : List ℕ) where
  last_quote : byte (in_quotes l) (suc (length l)) ≡ 34
  last_quote = get_or-append_seam l 34 [] 0

  quoted_length : length (l ++ (34 ∷ [])) ≡ suc (length l)
  quoted_length = omega (arith, length-append l (34 ∷ []))

  -- Nothing is trimmed,
  nothing_trimmed : trimmed (in_quotes l) ≡ record { offset = 0; length = suc (suc (length l)) }
  unfolding trimmed leading trimmed_end whitespace
  nothing_trimmed =
      rw (quoted_length, last_quote) (λ i. record { offset = 0; length = whole i })
    where
      whole : suc (suc (length l)) - 0 ≡ suc (suc (length l))
      whole = omega arith

  -- one quote goes in front,
  front_goes : without_opening_quote (in_quotes l) (record { offset = 0; length = suc (suc (length l)) })
      ≡ record { offset = 1; length = suc (length l) }
  unfolding without_opening_quote
  front_goes = rw (lt-ltb 0 (suc (suc (length l))) (omega arith)) (λ i. record { offset = 1; length = less i })
    where
      less : suc (suc (length l)) - 1 ≡ suc (length l)
      less = omega arith

  -- and one at the end.
  end_goes : without_closing_quote (in_quotes l) (record { offset = 1; length = suc (length l) }) ≡ record { offset = 1; length = length l }
  unfolding without_closing_quote
  end_goes =
      let place : 1 + suc (length l) - 1 ≡ suc (length l) = omega arith in
      rw (lt-ltb 0 (suc (length l)) (omega arith), place, last_quote) (λ i. record { offset = 1; length = less i })
    where
      less : suc (length l) - 1 ≡ length l
      less = omega arith

  pub quotes-back : value_of (in_quotes l) ≡ l
  unfolding value_of value_span
  quotes-back = rw (nothing_trimmed, front_goes, end_goes) (take-append_seam l (34 ∷ []))

-- ---- The whole

pub text_back : (t : List ℕ) → text_of (value_of (quoted_text t)) ≡ t
unfolding text_of quoted_text
text_back t = rw (quotes-back (escaped_body t)) (escapes_back t)
