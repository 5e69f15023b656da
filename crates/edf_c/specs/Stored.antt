-- A stored array as numbers that the caller lends.
use Rattle.std.specs.Prelude.{◌≡◌, Bool, true, false, List, ℕ, Ok}
use Rattle.scan.specs.Byte.{part_of}
use Rattle.scan.specs.declared.Span.{Span}
use Rattle.array.specs.Delivery.{array_in}
use Rattle.stored.specs.declared.StoredArray.{StoredArray}
use Rattle.records.specs.Numbers.{description_numbers}

-- A flag is 1 or 0.
abbrev pub flag : Bool → ℕ
flag true = 1
flag false = 0

pub record StoredNumbers : Type 0 where
  pub description : List ℕ
  pub span : Span
  pub delivered : ℕ

abbrev pub stored_of : List ℕ → Span → ℕ → StoredNumbers
stored_of description span delivered = record { description = description; span = span; delivered = delivered }

-- The numbers of a stored array.
abbrev pub stored_numbers : StoredArray → StoredNumbers
stored_numbers a = stored_of (description_numbers a.description) a.span (flag a.delivered)

-- In success, and where the flag is 1, the part of the file at the span is the array delivered.
abbrev pub DeliveredAt : List ℕ → ℕ → ℕ → ℕ → Span → ℕ → Type 0
DeliveredAt s block order code p delivered = code ≡ 0 → delivered ≡ 1 → array_in s block order ≡ Ok (part_of s p)
