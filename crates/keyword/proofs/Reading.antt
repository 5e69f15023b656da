-- What is read of a keyword, by the view of its block and by what is found in it.
use Rattle.std.specs.Prelude.{None, Some, Ok, Err, Option, ok_or}
use Rattle.std.proofs.lemmas.Option.{same_Some}
use Rattle.scan.specs.Outcome.{error_at, present, ◌>>=◌, Outcome}
use mathlib.Core.Path.{◌≡◌, refl, sym, ap, ◌∙◌}
use mathlib.Core.List.{List}
use Prim.Native.Nat.{ℕ}
use lib.IntN.{ℤ}
use Rattle.scan.specs.Buffer.{length_written, buffer_after}
use Rattle.scan.specs.declared.Error.{Error}
use Rattle.scan.specs.declared.Span.{Span}
use Rattle.scan.proofs.Cases.{by_option, by_outcome}
use Rattle.text.specs.Number.{whole_number}
use Rattle.text.specs.Text.{text_of, short_text}
use Rattle.keyword.specs.Answers.{located_bytes}
use Rattle.keyword.specs.Keyword.{view_of, lookup_in, entry_of, found, value_found, whole_number_of, text_in}
use Rattle.keyword.specs.Viewing.{view_at, Tells}
use Rattle.keyword.specs.declared.Block.{Block}

-- A value or an error, in std's words.
pub ok_or-present : {A : Type 0} (o : Option A) (code position : ℕ) → ok_or o (error_at code position) ≡ present o code position
ok_or-present (Some x) code position = refl
ok_or-present None code position = refl

module _ (s : List ℕ) (k : ℕ) (name : List ℕ) where
  -- ---- Where a value stands

  -- An answer is the span that is found, and its bytes are the value.
  abbrev pub Locates : Outcome Span → Type 0
  Locates r = (r ≡ found s k name) × (located_bytes s r ≡ value_found s k name)

  pub no_view : {e : Error} → Err e ≡ view_of s k → Locates (Err e)
  unfolding found value_found entry_of
  no_view e = rw (sym e) (refl, refl)

  module _ (b : Block) (e : Ok (view_at s b) ≡ view_of s k) (r : Option Span) (h : Tells s r (lookup_in (view_at s b) name)) where
    pub located : Locates (ok_or r (error_at 16 0))
    unfolding found value_found entry_of
    located =
        by_option (lookup_in (view_at s b) name)
        (λ q. let t = rw q at h in rw (sym e, q, t.0) (refl, refl))
        (λ x q. let t = rw q at h in let u = rw t.0 at t.1 in rw (sym e, q, t.0) (refl, ap Ok (same_Some _ _ u)))

  -- ---- The value as a whole number

  pub number_by_lem : whole_number_of s k name ≡ (value_found s k name >>= λ v. present (whole_number v) 18 0)
  unfolding whole_number_of value_found
  number_by_lem = by_outcome (entry_of s k name) (λ x q. rw q) (λ x q. rw q)

  pub number_unread : {e : Error} → Err e ≡ value_found s k name → Err e ≡ whole_number_of s k name
  number_unread e = rw (number_by_lem, sym e)

  module _ {v : List ℕ} (e : Ok v ≡ value_found s k name) (l : List ℕ) (is : l ≡ v) where
    pub number_read : (o : Option ℤ) → o ≡ whole_number l → ok_or o (error_at 18 0) ≡ whole_number_of s k name
    number_read o q = ok_or-present o 18 0 ∙ rw (number_by_lem, sym e, sym is, q) refl

  -- ---- The value as text

  pub text_by : text_in s k name ≡ (value_found s k name >>= λ v. short_text (text_of v))
  unfolding text_in value_found
  text_by = by_outcome (entry_of s k name) (λ x q. rw q) (λ x q. rw q)

  pub text_unread : {e : Error} → Err e ≡ value_found s k name → (d : List ℕ)
      → (Err e ≡ length_written (text_in s k name) d) × (d ≡ buffer_after (text_in s k name) d)
  unfolding length_written buffer_after
  text_unread e d = rw (text_by, sym e) (refl, refl)

  pub text_is : {v : List ℕ} → Ok v ≡ value_found s k name → (l : List ℕ) → l ≡ v → short_text (text_of l) ≡ text_in s k name
  text_is e l is = rw (text_by, sym e, sym is)
