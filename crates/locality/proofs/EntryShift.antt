-- What the statements of a header say, in a file behind another: the same keys and values, with the values' spans moved.
use mathlib.Core.Path.{◌≡◌, refl, ap}
use mathlib.Core.List.{List, [], ◌∷◌, ◌++◌, map}
use Prim.Native.Nat.{ℕ, suc, ◌+◌}
use native.Mathlib.Omega.{arith}
use lib.ListN.{length}
use Rattle.text.specs.Text.{every}
use Rattle.text.specs.Value.{trimmed, value_span}
use Rattle.header.specs.Entries.{trimmed_length, value, span, entries}
use Rattle.header.specs.Entry.{key, raw_value}
use Rattle.header.specs.Statements.{is_short}
use Rattle.header.specs.declared.Statement.{Statement}
use Rattle.locality.specs.Moved.{moved_span, moved_statement, moved_entry}
use Rattle.locality.proofs.Searches.{between_shift}

module _ (p s : List ℕ) where
  -- ---- One statement

  module _ (t : Statement) where
    key_shift : key (p ++ s) (moved_statement (length p) t) ≡ key s t
    unfolding key
    key_shift = rw (between_shift p s t.first t.equals)

    raw_shift : raw_value (p ++ s) (moved_statement (length p) t) ≡ raw_value s t
    raw_shift =
        let e : suc (length p + t.equals) ≡ length p + suc t.equals = omega arith in
        rw (e, between_shift p s (suc t.equals) t.end)

    trimmed_shift : trimmed_length (p ++ s) (moved_statement (length p) t) ≡ trimmed_length s t
    unfolding trimmed_length
    trimmed_shift = ap (λ (l : List ℕ). (trimmed l).length) raw_shift

    value_shift : value (p ++ s) (moved_statement (length p) t) ≡ value s t
    unfolding value
    value_shift = rw raw_shift

    span_shift : span (p ++ s) (moved_statement (length p) t) ≡ moved_span (length p) (span s t)
    unfolding span
    span_shift =
        let e : suc (length p + t.equals) + (value_span (raw_value s t)).offset ≡ length p + (suc t.equals + (value_span (raw_value s t)).offset) =
        omega arith in
        rw (raw_shift, e)

    short_shift : is_short (p ++ s) (moved_statement (length p) t) ≡ is_short s t
    unfolding is_short
    short_shift = rw (key_shift, trimmed_shift)

  -- ---- All of them

  pub entries_shift : (ts : List Statement) → entries (p ++ s) (map (moved_statement (length p)) ts) ≡ map (moved_entry (length p)) (entries s ts)
  unfolding entries
  entries_shift [] = refl
  entries_shift (t ∷ ts) = λ i. record { key = key_shift t i; value = value_shift t i; span = span_shift t i } ∷ entries_shift ts i

  pub keys_shift : (ts : List Statement) → map (key (p ++ s)) (map (moved_statement (length p)) ts) ≡ map (key s) ts
  keys_shift [] = refl
  keys_shift (t ∷ ts) = λ i. key_shift t i ∷ keys_shift ts i

  pub all_short_shift : (ts : List Statement) → every (is_short (p ++ s)) (map (moved_statement (length p)) ts) ≡ every (is_short s) ts
  all_short_shift [] = refl
  all_short_shift (t ∷ ts) = rw (short_shift t, all_short_shift ts)
