-- Escapes and unescapes one byte at a time: what stands at i decides what is next.
use Rattle.std.specs.List.{filter}
use Rattle.std.specs.Option.{is_some}
use Rattle.std.specs.Prelude.{Option, None, Some}
use mathlib.Core.Path.{◌≡◌, refl, ap, ◌∙◌}
use mathlib.Core.Bool.{Bool, true, false, not, cond, ◌&&◌, ◌||◌}
use mathlib.Core.List.{List, [], ◌∷◌}
use Prim.Native.Nat.{ℕ, ◌+◌, ◌*◌, ◌≤◌, ◌<◌}
use native.Mathlib.Omega.{arith}
use lib.Dec.{eqb}
use lib.ListN.{length, drop, set, get_or, drop_of_length-le, length-append}
use Rattle.scan.specs.Buffer.{over}
use Rattle.scan.proofs.Cases.{by_test}
use Rattle.text.specs.Escapes.{letter, meaning}
use Rattle.text.specs.Text.{every, escape_with, escaped_body, quoted_text, without_line_breaks, unescaped_after, text_of}
use Rattle.text.proofs.Buffers.{drop_next}

-- ---- A test of every byte

module _ (p : ℕ → Bool) (s : List ℕ) (i : ℕ) where
  every_at : i < length s → every p (drop i s) ≡ (p (get_or s i 0) && every p (drop (i + 1) s))
  every_at h = ap (every p) (drop_next s i h)

  pub passes_here : i < length s → p (get_or s i 0) ≡ true → every p (drop i s) ≡ every p (drop (i + 1) s)
  passes_here h e = every_at h ∙ ap (λ (b : Bool). b && every p (drop (i + 1) s)) e

  pub fails_here : i < length s → p (get_or s i 0) ≡ false → every p (drop i s) ≡ false
  fails_here h e = every_at h ∙ ap (λ (b : Bool). b && every p (drop (i + 1) s)) e

  pub passed_all : length s ≤ i → every p (drop i s) ≡ true
  passed_all h = ap (every p) (drop_of_length-le s h)

-- ---- Escaping

module _ (s : List ℕ) (i : ℕ) (h : i < length s) where
  pub escaped_at : (o : Option ℕ) → letter (get_or s i 0) ≡ o
      → escaped_body (drop i s) ≡ escape_with (get_or s i 0) o (escaped_body (drop (i + 1) s))
  unfolding escaped_body
  escaped_at o e =
      ap escaped_body (drop_next s i h)
      ∙ ap (λ (q : Option ℕ). escape_with (get_or s i 0) q (escaped_body (drop (i + 1) s))) e

pub escaped_end : (s : List ℕ) (i : ℕ) → length s ≤ i → escaped_body (drop i s) ≡ []
unfolding escaped_body
escaped_end s i h = ap escaped_body (drop_of_length-le s h)

-- Whether a byte is escaped.
abbrev pub has_letter : ℕ → Bool
has_letter b = is_some (letter b)

-- One byte each, and one more for each that is escaped.
one_or_more : (b : ℕ) (t e : List ℕ) (o : Option ℕ) → letter b ≡ o → length t + length (filter has_letter t) ≡ length e
    → length (b ∷ t) + length (filter has_letter (b ∷ t)) ≡ length (escape_with b o e)
one_or_more b t e None q h = rw q (omega arith)
one_or_more b t e (Some c) q h = rw q (omega arith)

pub escaped_count : (t : List ℕ) → length t + length (filter has_letter t) ≡ length (escaped_body t)
unfolding escaped_body
escaped_count [] = refl
escaped_count (b ∷ t) = one_or_more b t (escaped_body t) (letter b) refl (escaped_count t)

-- One byte takes at most two.
one_or_two : (b : ℕ) (o : Option ℕ) (l : List ℕ) → length (escape_with b o l) ≤ length l + 2
one_or_two b None l = omega arith
one_or_two b (Some c) l = omega arith

pub at_most_twice : (t : List ℕ) → length (escaped_body t) ≤ 2 * length t
unfolding escaped_body
at_most_twice [] = omega arith
at_most_twice (b ∷ t) = omega (arith, one_or_two b (letter b) (escaped_body t), at_most_twice t)

pub quoted_length : (t : List ℕ) → length (escaped_body t) + 2 ≡ length (quoted_text t)
unfolding quoted_text
quoted_length t = simp length-append (omega arith)

pub over_quoted : (t d : List ℕ) → over (quoted_text t) (set d 0 34) ≡ over (quoted_text t) d
unfolding quoted_text
over_quoted t [] = refl
over_quoted t (y ∷ d) = refl

-- ---- Unescaping

-- The text of what is left of a value, by whether a backslash stands before.
abbrev pub text_after : Bool → List ℕ → List ℕ
text_after t s = unescaped_after t (without_line_breaks s)

opens_at : (t : Bool) (b : ℕ) (r : List ℕ) → (not t && eqb b 92) ≡ true → unescaped_after t (b ∷ r) ≡ unescaped_after true r
unfolding unescaped_after
opens_at true b r e = cc
opens_at false b r e = rw e

gives_at : (t : Bool) (b : ℕ) (r : List ℕ) → (not t && eqb b 92) ≡ false
    → unescaped_after t (b ∷ r) ≡ cond t (meaning b) b ∷ unescaped_after false r
unfolding unescaped_after
gives_at true b r e = refl
gives_at false b r e = rw e

module _ (s : List ℕ) (i : ℕ) (t : Bool) (h : i < length s) where
  pub skips : (eqb (get_or s i 0) 10 || eqb (get_or s i 0) 13) ≡ true → text_after t (drop i s) ≡ text_after t (drop (i + 1) s)
  unfolding without_line_breaks
  skips e = rw (drop_next s i h, e)

  module _ (kept : (eqb (get_or s i 0) 10 || eqb (get_or s i 0) 13) ≡ false) where
    keeps : text_after t (drop i s) ≡ unescaped_after t (get_or s i 0 ∷ without_line_breaks (drop (i + 1) s))
    unfolding without_line_breaks
    keeps = rw (drop_next s i h, kept)

    pub opens : (not t && eqb (get_or s i 0) 92) ≡ true → text_after t (drop i s) ≡ text_after true (drop (i + 1) s)
    opens e = keeps ∙ opens_at t (get_or s i 0) (without_line_breaks (drop (i + 1) s)) e

    pub gives : (not t && eqb (get_or s i 0) 92) ≡ false
        → text_after t (drop i s) ≡ cond t (meaning (get_or s i 0)) (get_or s i 0) ∷ text_after false (drop (i + 1) s)
    gives e = keeps ∙ gives_at t (get_or s i 0) (without_line_breaks (drop (i + 1) s)) e

pub text_end : (s : List ℕ) (i : ℕ) (t : Bool) → length s ≤ i → text_after t (drop i s) ≡ []
unfolding unescaped_after without_line_breaks
text_end s i true h = ap (text_after true) (drop_of_length-le s h)
text_end s i false h = ap (text_after false) (drop_of_length-le s h)

-- The text is no longer than the value.
kept-length : (s : List ℕ) → length (without_line_breaks s) ≤ length s
unfolding without_line_breaks
kept-length [] = omega arith
kept-length (b ∷ s) =
    by_test (eqb b 10 || eqb b 13) (λ e. rw e (omega (arith, kept-length s))) (λ e. rw e (omega (arith, kept-length s)))

unescaped-length : (t : Bool) (s : List ℕ) → length (unescaped_after t s) ≤ length s
unfolding unescaped_after
unescaped-length true [] = omega arith
unescaped-length false [] = omega arith
unescaped-length true (b ∷ s) = omega (arith, unescaped-length false s)
unescaped-length false (b ∷ s) =
    by_test (eqb b 92) (λ e. rw e (omega (arith, unescaped-length true s))) (λ e. rw e (omega (arith, unescaped-length false s)))

pub text-length : (s : List ℕ) → length (text_of s) ≤ length s
unfolding text_of
text-length s = omega (arith, unescaped-length false (without_line_breaks s), kept-length s)
