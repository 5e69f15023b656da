-- Where a value stands in the bytes that it is taken from: inside them.
use mathlib.Core.Path.{◌≡◌, ap, ◌∙◌}
use mathlib.Core.Bool.{◌&&◌}
use mathlib.Core.List.{List}
use Prim.Native.Nat.{ℕ, ◌+◌, ◌-◌}
use native.Mathlib.Omega.{arith}
use borrow.Author.Tests.{le-leb}
use lib.Dec.{eqb, ltb}
use lib.ListN.{length, take, drop}
use Rattle.scan.specs.Byte.{byte, bytes_at, part_of}
use Rattle.scan.specs.declared.Span.{Span}
use Rattle.scan.proofs.Cases.{by_test}
use Rattle.text.proofs.Trims.{Fits, trimmed_fits, opening_quote_fits}
use Rattle.text.specs.Value.{trimmed, without_opening_quote, without_closing_quote, value_span, value_of}

module _ (l : List ℕ) where
  closing_fits : (p : Span) → Fits l p → Fits l (without_closing_quote l p)
  unfolding without_closing_quote
  closing_fits p h =
      by_test (ltb 0 p.length && eqb (byte l (p.offset + p.length - 1)) 34) (λ e. rw e (omega arith)) (λ e. rw e h)

  pub value_fits : Fits l (value_span l)
  unfolding value_span
  value_fits = closing_fits (without_opening_quote l (trimmed l)) (opening_quote_fits l (trimmed l) (trimmed_fits l))

-- The part of the bytes that the value is.
pub part_value : (l : List ℕ) → part_of l (value_span l) ≡ value_of l
unfolding part_of value_of
part_value l = rw (le-leb ((value_span l).offset + (value_span l).length) (length l) (value_fits l))

-- The same of a span that the code holds and lends the bytes of.
pub held_part : (l : List ℕ) (p q : Span) → p ≡ q → take (p.offset + p.length - p.offset) (drop p.offset l) ≡ bytes_at l q
held_part l p q e =
    let same : p.offset + p.length - p.offset ≡ p.length = omega arith in
    ap (λ (n : ℕ). take n (drop p.offset l)) same ∙ ap (bytes_at l) e
