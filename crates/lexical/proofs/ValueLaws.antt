-- `value_span` and `value_of` give just the value: where it stands in the bytes between `=` and `;`, and what it is.
use mathlib.Core.Path.{◌≡◌, refl, sym, ◌∙◌}
use mathlib.Core.Logic.{◌↔◌}
use mathlib.Core.List.{List}
use Prim.Native.Nat.{ℕ, ◌+◌}
use lib.ListN.{length}
use Rattle.scan.specs.Byte.{bytes_at}
use Rattle.text.specs.Value.{trimmed, value_span, value_of}
use Rattle.lexical.specs.Value.{IsValue}
use Rattle.lexical.proofs.PartLaws.{Part, span_of, part_bytes}
use Rattle.lexical.proofs.QuoteLaws.{opening-span, opening_part, leading_some, closing_span, closing_part, trailing_some}
use Rattle.lexical.proofs.TrimLaws.{trimmed-span, trimmed_part, trimmed_holds}

module _ {raw : List ℕ} {offset : ℕ} {value : List ℕ} (h : IsValue raw offset value) where
  unopened_part : Part raw (h.before + h.quotes) h.unopened
  unopened_part = opening_part (trimmed_part h.trim) h.leading

  value-span : value_span raw ≡ span_of offset value
  unfolding value_span
  value-span =
      rw (
        trimmed-span h.trim,
        opening-span (trimmed_part h.trim) h.leading,
        closing_span unopened_part h.trailing,
        h.stands,
      )

  pub value-length : length value ≡ (value_span raw).length
  value-length = rw value-span

  value_only : ((value_span raw).offset ≡ offset) × (value_of raw ≡ value)
  unfolding value_of
  value_only = (rw value-span, rw (value-span, h.stands) (part_bytes (closing_part unopened_part h.trailing)))

-- Any bytes have a value.
values : (raw : List ℕ) → (offset : ℕ) × (value : List ℕ) × IsValue raw offset value
values raw =
    let o = leading_some (bytes_at raw (trimmed raw)) in
    let c = trailing_some o.1 in (
      (trimmed raw).offset + o.0,
      c.0,
      record {
        trimmed = bytes_at raw (trimmed raw);
        unopened = o.1;
        before = (trimmed raw).offset;
        quotes = o.0;
        trim = trimmed_holds raw;
        leading = o.2;
        trailing = c.1;
        stands = refl;
      },
    )

pub value_holds : (raw : List ℕ) → IsValue raw (value_span raw).offset (value_of raw)
value_holds raw = let r = values raw in let o = value_only r.2 in rw (o.1, o.0) r.2

pub value_is : (raw : List ℕ) {offset : ℕ} {value : List ℕ}
    → (((value_span raw).offset ≡ offset) × (value_of raw ≡ value)) ↔ IsValue raw offset value
value_is raw = (λ e. rw (e.1, e.0) at (value_holds raw), value_only)

pub value_unique : {raw v w : List ℕ} {o p : ℕ} → IsValue raw o v → IsValue raw p w → (o ≡ p) × (v ≡ w)
value_unique g h = let a = value_only g in let b = value_only h in (sym a.0 ∙ b.0, sym a.1 ∙ b.1)
