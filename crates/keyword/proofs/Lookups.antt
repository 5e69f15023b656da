-- Looking a key up in one header, and in the headers of a block.
use Rattle.std.specs.Prelude.{Option, None, Some, option_map}
use mathlib.Core.Path.{◌≡◌, refl, sym, ap, ◌∙◌}
use mathlib.Core.Bool.{true, false}
use mathlib.Core.List.{List}
use Prim.Native.Nat.{ℕ, suc, ◌+◌, ◌≤◌, ◌<◌}
use native.Mathlib.Numerals.{add-one}
use native.Mathlib.Omega.{arith}
use borrow.Author.Tests.{le-leb}
use lib.ListN.{length, length-take}
use Rattle.scan.specs.Byte.{part_of}
use Rattle.scan.specs.declared.Span.{Span}
use Rattle.scan.proofs.Cases.{by_option, none_some}
use Rattle.text.specs.Key.{key_of}
use Rattle.header.specs.Entries.{span, value, lookup}
use Rattle.header.specs.Entry.{Entry, body_of}
use Rattle.header.specs.Lookup.{first_statement, entry_of}
use Rattle.header.specs.Statements.{leading_statements}
use Rattle.header.specs.declared.Header.{Header}
use Rattle.header.specs.declared.Statement.{Statement}
use Rattle.header.proofs.Leading.{leading_end, end-answer}
use Rattle.header.proofs.LookupLaws.{lookup_first, first_stands, span_ends, value_at_span, part_of_prefix}
use Rattle.blocks.specs.Counting.{is_edf_key}
use Rattle.keyword.specs.Keyword.{lookup_in}
use Rattle.keyword.specs.Origin.{origin_in}
use Rattle.keyword.specs.Trace.{Trace, trace_in, trace_of}
use Rattle.keyword.specs.Viewing.{header_entries, general_entry, view_at, Tells}
use Rattle.keyword.specs.declared.Block.{Block}
use Rattle.keyword.specs.declared.Origin.{Origin}
use Rattle.keyword.specs.declared.Origin.TheVariants as origin
use Rattle.keyword.specs.declared.Traced.{Traced}

-- Nothing was found if the answer is that it is missing.
missing_none : (s : List ℕ) (r : Option Span) (o : Option Entry) → Tells s r o → r ≡ None → o ≡ None
missing_none s r o h a =
    let t : Tells s None o = rw a at h in
    by_option o (λ e. e) (λ x e. absurd (none_some (rw e at t.0)))

-- ---- In one header

-- Where a statement that was found lies.
pub found_lies : (body k : List ℕ) (t : Statement) (at : ℕ) → Some t ≡ first_statement body k (leading_statements body at)
    → (t.equals < t.end) × (t.end ≤ length body)
found_lies body k t at e = let x = first_stands body k t at (sym e) in (x.0.value_after, omega (arith, x.1))

module _ (s k : List ℕ) (h : Header) where
  lookup_is : lookup k (header_entries s h)
      ≡ option_map (entry_of (body_of s h)) (first_statement (body_of s h) k (leading_statements (body_of s h) (suc h.left)))
  unfolding header_entries
  lookup_is = lookup_first (body_of s h) k (leading_statements (body_of s h) (suc h.left))

  -- The value at the span of a statement, in the whole file.
  module _ (t : Statement) (order : t.equals < t.end) (inside : t.end ≤ length (body_of s h)) where
    pub value_part_lem : part_of s (span (body_of s h) t) ≡ value (body_of s h) t
    unfolding part_of
    value_part_lem =
        let p = span (body_of s h) t in
        let ends : p.offset + p.length ≤ t.end = span_ends (body_of s h) t order inside in
        let fits : p.offset + p.length ≤ h.right = omega (arith, ends, length-take h.right s) in
        rw (le-leb (p.offset + p.length) (length s) (omega (arith, ends, length-take h.right s)))
        (sym (part_of_prefix p.length p.offset h.right s fits) ∙ value_at_span (body_of s h) t order inside)

  -- A header whose body lies past the end has no entry.
  pub none_past : length s ≤ h.left → Tells s None (lookup k (header_entries s h))
  unfolding first_statement
  none_past l =
      let e = leading_end (body_of s h) (suc h.left)
      (end-answer (body_of s h) (λ i a b. absurd (omega (arith, length-take h.right s)))) in
      rw (lookup_is, e) (refl, refl)

  -- By a search in the body.
  module _ (body : List ℕ) (is : body ≡ body_of s h) where
    pub none_found : None ≡ first_statement body k (leading_statements body (h.left + 1)) → Tells s None (lookup k (header_entries s h))
    none_found e = rw (lookup_is, sym (add-one h.left), sym is, sym e) (refl, refl)

    module _ (t : Statement) (e : Some t ≡ first_statement body k (leading_statements body (h.left + 1))) where
      pub one_found : (p : Span) → p ≡ span body t → Tells s (Some p) (lookup k (header_entries s h))
      one_found p q =
          let l = found_lies body k t (h.left + 1) e in
          let v : part_of s (span (body_of s h) t) ≡ value (body_of s h) t = value_part_lem t l.0 (rw (sym is) l.1) in
          rw (lookup_is, sym (add-one h.left), sym is, sym e, q) (refl, ap Some (rw (sym is) at v))

-- ---- In a block

module _ (s : List ℕ) (b : Block) (name : List ℕ) where
  abbrev own_entry : Option Entry
  own_entry = lookup (key_of name) (header_entries s b.own)

  -- The general header is left out for an EDF_ key, or there is none.
  pub edf_key : is_edf_key (key_of name) ≡ true → Tells s None (general_entry (view_at s b) name)
  unfolding general_entry
  edf_key k = rw k (refl, refl)

  pub no_general : is_edf_key (key_of name) ≡ false → b.general ≡ None → Tells s None (general_entry (view_at s b) name)
  unfolding general_entry view_at lookup
  no_general k i = rw (k, i) (refl, refl)

  pub in_general : {h : Header} {r : Option Span} → is_edf_key (key_of name) ≡ false → b.general ≡ Some h
      → Tells s r (lookup (key_of name) (header_entries s h)) → Tells s r (general_entry (view_at s b) name)
  unfolding general_entry view_at
  in_general k i t = rw (k, i) t

  -- A value and an origin are those of the keyword in the block.
  abbrev pub Traces : Option Span → Origin → Type 0
  Traces r o = trace_of s (record { value = r; origin = o }) ≡ trace_in (view_at s b) name

  module _ {r : Option Span} (own : Tells s r own_entry) where
    -- The own header comes first.
    pub traced_own : {p : Span} → r ≡ Some p → Traces (Some p) origin.Own
    unfolding lookup_in origin_in view_at
    traced_own {p} a =
        let t : Tells s (Some p) own_entry = rw a at own in
        by_option own_entry
        (λ e. absurd (none_some (sym (rw e at t.0))))
        (λ x e. let u = rw e at t in rw e (λ j. record { span = u.0 j; value = u.1 j; origin = origin.Own }))

    module _ (a : r ≡ None) where
      not_own : own_entry ≡ None
      not_own = missing_none s r own_entry own a

      module _ {q : Option Span} (general : Tells s q (general_entry (view_at s b) name)) where
        pub traced_general : {p : Span} → q ≡ Some p → Traces (Some p) origin.General
        unfolding lookup_in origin_in view_at general_entry
        traced_general {p} c =
            let t : Tells s (Some p) (general_entry (view_at s b) name) = rw c at general in
            by_option (general_entry (view_at s b) name)
            (λ e. absurd (none_some (sym (rw e at t.0))))
            (λ x e. let u = rw e at t in rw (not_own, e) (λ j. record { span = u.0 j; value = u.1 j; origin = origin.General }))

        pub traced_nowhere : q ≡ None → Traces None origin.Default
        unfolding lookup_in origin_in view_at general_entry
        traced_nowhere c = rw (not_own, missing_none s q (general_entry (view_at s b) name) general c) refl

  -- What a traced keyword says of its value alone.
  pub value_alone : (t : Traced) → Traces t.value t.origin → Tells s t.value (lookup_in (view_at s b) name)
  value_alone t e = (ap (λ (x : Trace). x.span) e, ap (λ (x : Trace). x.value) e)
