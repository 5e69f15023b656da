-- The value of a statement: which of the bytes between `=` and `;` it is.
use Rattle.std.specs.Prelude.{cond, ◌&&◌, List, [], ◌∷◌, ℕ, zero, suc, ◌+◌, ◌-◌, eqb, ltb, length}
use Rattle.scan.specs.Byte.{byte, bytes_at}
use Rattle.scan.specs.declared.Span.{Span}
use Rattle.text.specs.Whitespace.{whitespace}

-- How many bytes of whitespace stand in front.
unfoldable pub leading : List ℕ → ℕ
leading [] = 0
leading (b ∷ bs) = let r = leading bs in cond (whitespace b) (suc r) 0

-- How many of the first n bytes are left without the whitespace at their end.
unfoldable pub trimmed_end : List ℕ → ℕ → ℕ
trimmed_end l zero = 0
trimmed_end l (suc n) = let r = trimmed_end l n in cond (whitespace (byte l n)) r (suc n)

-- "A value is trimmed of white at both ends (..; all white is empty at its `;`)": then all of it stands in front, and
-- the span is empty at the end.
unfoldable pub trimmed : List ℕ → Span
trimmed l = record { offset = leading l; length = trimmed_end l (length l) - leading l }

-- "then loses one leading `"` if it has one"
unfoldable pub without_opening_quote : List ℕ → Span → Span
without_opening_quote l p =
    cond (ltb 0 p.length && eqb (byte l p.offset) 34)
    (record { offset = suc p.offset; length = p.length - 1 }) p

-- "then one trailing `"` if it still has one."
unfoldable pub without_closing_quote : List ℕ → Span → Span
without_closing_quote l p =
    cond (ltb 0 p.length && eqb (byte l (p.offset + p.length - 1)) 34)
    (record { offset = p.offset; length = p.length - 1 }) p

-- Where the value stands in the bytes between `=` and `;`.
unfoldable pub value_span : List ℕ → Span
value_span l = without_closing_quote l (without_opening_quote l (trimmed l))

-- And what it is.
unfoldable pub value_of : List ℕ → List ℕ
value_of l = bytes_at l (value_span l)
