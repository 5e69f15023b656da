-- What statements say, as functions: their values, and where these stand in the file; and a key looked up.
use Rattle.std.specs.Prelude.{cond, List, [], ◌∷◌, map, ℕ, suc, ◌+◌, Option, None, Some, option_map}
use Rattle.scan.specs.Byte.{same}
use Rattle.scan.specs.declared.Span.{Span}
use Rattle.text.specs.Value.{trimmed, value_span, value_of}
use Rattle.header.specs.Entry.{Entry, key, raw_value}
use Rattle.header.specs.declared.Statement.{Statement}

module _ (s : List ℕ) (t : Statement) where
  -- How many bytes of a value are left after trimming, quotes included.
  unfoldable pub trimmed_length : ℕ
  trimmed_length = (trimmed (raw_value s t)).length

  -- The value, trimmed and unquoted.
  unfoldable pub value : List ℕ
  value = value_of (raw_value s t)

  -- Where it stands in the file.
  unfoldable pub span : Span
  span = record { offset = suc t.equals + (value_span (raw_value s t)).offset; length = (value_span (raw_value s t)).length }

-- What the statements of a header say, in order.
unfoldable pub entries : List ℕ → List Statement → List Entry
entries s ts = map (λ (t : Statement). record { key = key s t; value = value s t; span = span s t }) ts

-- The entry of a key, if there is one.
unfoldable pub lookup : List ℕ → List Entry → Option Entry
lookup k [] = None
lookup k (e ∷ es) = let r = lookup k es in cond (same e.key k) (Some e) r

-- Its value.
abbrev pub value_in : List ℕ → List Entry → Option (List ℕ)
value_in k es = option_map (λ (e : Entry). e.value) (lookup k es)
