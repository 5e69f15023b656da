-- Looking a key up in statements is looking it up in what they say; what is found is a statement; and where its value is.
use Rattle.std.specs.Prelude.{Option, None, Some, option_map, Ok, Err}
use mathlib.Core.Path.{◌≡◌, refl, sym, ap, ◌∙◌}
use mathlib.Core.Bool.{true, false}
use mathlib.Core.List.{List, [], ◌∷◌}
use Prim.Native.Nat.{ℕ, zero, suc, ◌+◌, ◌-◌, ◌≤◌, ◌<◌}
use native.Mathlib.Numerals.{add-one}
use native.Mathlib.Omega.{arith}
use lib.ListN.{length, take, drop}
use lib.Seq.{length-slice, drop-drop, take-take}
use Rattle.scan.specs.Byte.{bytes_at, same}
use Rattle.scan.specs.declared.Span.{Span}
use Rattle.scan.proofs.Cases.{by_test, none_some}
use Rattle.text.specs.Value.{value_span, value_of}
use Rattle.header.specs.Entries.{value, span, entries, lookup}
use Rattle.header.specs.Entry.{key, raw_value}
use Rattle.header.specs.Grammar.{IsStatement}
use Rattle.header.specs.Lookup.{first_statement, entry_of}
use Rattle.header.specs.Statements.{statement_at, followed, leading_within, leading_statements, Next, malformed}
use Rattle.header.specs.declared.Statement.{Statement}
use Rattle.header.proofs.Leading.{part_between, part_is, statement-stands, leading-one, leading_end, leading-malformed}
use Rattle.text.proofs.ValueSpans.{value_fits, held_part}
use Rattle.header.proofs.OneStatement.{NextSays, statement_says}
use Rattle.header.proofs.StatementLaws.{statement_inside}

pub lookup_first : (s k : List ℕ) (ts : List Statement)
    → lookup k (entries s ts) ≡ option_map (entry_of s) (first_statement s k ts)
unfolding lookup entries first_statement
lookup_first s k [] = refl
lookup_first s k (t ∷ ts) =
    by_test (same (key s t) k) (λ e. rw e) (λ e. rw e (lookup_first s k ts))

-- ---- What is found is a statement

module _ (s k : List ℕ) (t : Statement) where
  abbrev Stands : Type 0
  Stands = IsStatement s t × (t.end < length s)

  stands_next : (at : ℕ) (next : Next) (go : ℕ → List Statement) → NextSays s at next
      → ((i : ℕ) → first_statement s k (go i) ≡ Some t → Stands) → first_statement s k (followed next go) ≡ Some t → Stands
  unfolding first_statement
  stands_next at (Ok (Some u)) go h rest e =
      by_test (same (key s u) k)
      (λ q. let f : ◌≡◌ {A = Option Statement} (Some u) (Some t) = rw q at e in
      let g : u ≡ t = cc in
      rw (sym g) (h.is, (statement_inside s h).1))
      (λ q. rest (suc u.end) (rw q at e))
  stands_next at (Ok None) go h rest e = absurd (none_some e)
  stands_next at (Err m) go h rest e = absurd (none_some e)

  stands_within : (n at : ℕ) → first_statement s k (leading_within n s at) ≡ Some t → Stands
  unfolding leading_within first_statement
  stands_within zero at e = absurd (none_some e)
  stands_within (suc n) at e = stands_next at (statement_at s at) _ (statement_says s at) (λ i f. stands_within n i f) e

  pub first_stands : (at : ℕ) → first_statement s k (leading_statements s at) ≡ Some t → IsStatement s t × (t.end < length s)
  unfolding leading_statements
  first_stands at e = stands_within (suc (length s)) at e

-- ---- The turns of a loop

module _ (s k : List ℕ) (at : ℕ) where
  pub first_end : statement_at s at ≡ Ok None → first_statement s k (leading_statements s at) ≡ None
  unfolding first_statement
  first_end e = rw (leading_end s at e)

  pub first_malformed : statement_at s at ≡ Err malformed → first_statement s k (leading_statements s at) ≡ None
  unfolding first_statement
  first_malformed e = rw (leading-malformed s at e)

  module _ (t : Statement) (e : statement_at s at ≡ Ok (Some t)) (j : List ℕ) (is_key : j ≡ key s t) where
    pub first_hit : same j k ≡ true → first_statement s k (leading_statements s at) ≡ Some t
    unfolding first_statement
    first_hit q = rw (leading-one s (statement-stands s at t e), sym is_key, q)

    pub first_miss : same j k ≡ false
        → first_statement s k (leading_statements s at) ≡ first_statement s k (leading_statements s (t.end + 1))
    unfolding first_statement
    first_miss q = rw (leading-one s (statement-stands s at t e), sym is_key, q, add-one t.end)

-- ---- Where a value stands, by the span in the bytes between `=` and `;` as a part of a slice

module _ (s : List ℕ) (t : Statement) (order : t.equals < t.end) where
  abbrev value_part : List ℕ
  value_part = take (t.end - (t.equals + 1)) (drop (t.equals + 1) s)

  part_raw : value_part ≡ raw_value s t
  part_raw = part_is s (t.equals + 1) t.end (omega arith) ∙ rw (add-one t.equals)

  pub span_is : (p : Span) → p ≡ value_span value_part
      → ◌≡◌ {A = Span} (record { offset = t.equals + 1 + p.offset; length = p.length }) (span s t)
  unfolding span
  span_is p e =
      let f : p ≡ value_span (raw_value s t) = e ∙ ap value_span part_raw in
      let g : t.equals + 1 ≡ suc t.equals = add-one t.equals in
      λ i. record { offset = g i + (f i).offset; length = (f i).length }

  pub span_inside : t.end ≤ length s → (p : Span) → p ≡ value_span value_part → t.equals + 1 + p.offset ≤ t.end
  span_inside h p e =
      let raw : length (raw_value s t) ≡ t.end - suc t.equals = length-slice (suc t.equals) t.end s h in
      let f : p ≡ value_span (raw_value s t) = e ∙ ap value_span part_raw in
      omega (arith, raw, value_fits (raw_value s t), ap (λ (q : Span). q.offset) f)

-- ---- The bytes at the span of a value are the value

-- A part of a prefix that lies in it is the file's.
pub part_of_prefix : (n from to : ℕ) (s : List ℕ) → from + n ≤ to → take n (drop from (take to s)) ≡ take n (drop from s)
part_of_prefix n from to s h =
    part_between from n (take to s) ∙ ap (drop from) (take-take (from + n) to s h) ∙ sym (part_between from n s)

module _ (s : List ℕ) (t : Statement) (order : t.equals < t.end) (inside : t.end ≤ length s) where
  -- The span ends before the `;`.
  pub span_ends : (span s t).offset + (span s t).length ≤ t.end
  unfolding span
  span_ends = omega (arith, length-slice (suc t.equals) t.end s inside, value_fits (raw_value s t))

  pub value_at_span : bytes_at s (span s t) ≡ value s t
  unfolding span value value_of
  value_at_span =
      let p = value_span (raw_value s t) in
      sym (ap (take p.length) (drop-drop p.offset (suc t.equals) (take t.end s))
      ∙ part_of_prefix p.length (suc t.equals + p.offset) t.end s span_ends)

  -- The same as a part that is lent.
  pub value_part_lem : (p : Span) → p ≡ span s t → take (p.offset + p.length - p.offset) (drop p.offset s) ≡ value s t
  value_part_lem p e = held_part s p (span s t) e ∙ value_at_span
