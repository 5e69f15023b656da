-- What statements say: `entries` gives just the entries that the grammar gives them.
use mathlib.Core.Path.{◌≡◌, refl, sym, ap, ◌∙◌}
use mathlib.Core.List.{List, [], ◌∷◌, map}
use Prim.Native.Nat.{ℕ, suc, ◌+◌}
use Rattle.text.specs.Value.{value_span}
use Rattle.lexical.proofs.ValueLaws.{value_is, value_holds, value-length}
use Rattle.header.specs.Entries.{value, span, entries}
use Rattle.header.specs.Entry.{Entry, key, raw_value}
use Rattle.header.specs.Grammar.{Says, SayAll, nothing, more}
use Rattle.header.specs.Lookup.{entry_of}
use Rattle.header.specs.declared.Statement.{Statement}

module _ (s : List ℕ) where
  -- ---- One statement

  says_entry : (t : Statement) → Says s t (entry_of s t)
  unfolding value span
  says_entry t =
      let raw = raw_value s t in
      record {
        key_is = refl;
        offset = (value_span raw).offset;
        value_is = value_holds raw;
        span_is = λ i. record { offset = suc t.equals + (value_span raw).offset; length = sym (value-length (value_holds raw)) i };
      }

  says_only : {t : Statement} {e : Entry} → Says s t e → e ≡ entry_of s t
  unfolding value span
  says_only {t} {e} h =
      let raw = raw_value s t in
      let found = (value_is raw).1 h.value_is in
      let offset : (value_span raw).offset ≡ h.offset = found.0 in
      let same : e.span ≡ record { offset = suc t.equals + (value_span raw).offset; length = (value_span raw).length } =
      h.span_is ∙ (λ i. record { offset = suc t.equals + sym offset i; length = value-length h.value_is i }) in
      λ i. record { key = h.key_is i; value = sym found.1 i; span = same i }

  -- ---- All statements

  pub entries_say : (ts : List Statement) → SayAll s ts (entries s ts)
  unfolding entries
  entries_say [] = nothing
  entries_say (t ∷ ts) = more (says_entry t) (entries_say ts)

  pub entries_only : {ts : List Statement} {es : List Entry} → SayAll s ts es → es ≡ entries s ts
  unfolding entries
  entries_only nothing = refl
  entries_only (more {t = t} {e = e} h hs) =
      let first : e ≡ entry_of s t = says_only h in
      cc (first, entries_only hs)

  -- Their keys are those of the statements.
  pub said_keys : (ts : List Statement) → map (λ (e : Entry). e.key) (entries s ts) ≡ map (key s) ts
  unfolding entries
  said_keys [] = refl
  said_keys (t ∷ ts) = ap (λ (ks : List (List ℕ)). key s t ∷ ks) (said_keys ts)
