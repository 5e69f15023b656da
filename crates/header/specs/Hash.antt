-- The hash of a key, and a hash table by open addressing: a list of slots that hold hashes, 0 where a slot is empty. A
-- probe starts at the slot that the hash gives and goes from slot to slot; it does not wrap around.
use Rattle.std.specs.Prelude.{◌≡◌, ◌≢◌, Bool, false, cond, ℕ, ◌+◌, ◌*◌, ◌/◌, ◌%◌, ◌≤◌, ◌<◌, length, get_or}
use mathlib.Core.List.{List, [], ◌∷◌, Memᴰ}
use Rattle.std.specs.Int.Bits.{bit_xor}
use Rattle.text.specs.Fold.{fold}
use Rattle.text.specs.Whitespace.{whitespace}

-- ---- The hash

-- The high bits are spread over the low ones.
abbrev pub spread : ℕ → ℕ
spread y = bit_xor y (y / 536870912)

-- One byte more: the low half of the hash times a constant, plus its high half, which loses nothing in 64 bits.
unfoldable pub mixed : ℕ → ℕ → ℕ
mixed h b = spread (h % 4294967296 * 4294883355 + h / 4294967296 + b)

-- One byte of a key as it stands in the file.
unfoldable pub mixed_key_byte : ℕ → ℕ → ℕ
mixed_key_byte h b = cond (whitespace b) h (mixed h (fold b))

unfoldable pub hash_from : ℕ → List ℕ → ℕ
hash_from h [] = h
hash_from h (b ∷ bs) = hash_from (mixed h b) bs

-- The hash of a key.
unfoldable pub hash_of : List ℕ → ℕ
hash_of k = mixed (hash_from 1 k) 0

-- The slot that a probe for a hash starts at, of so many: the low half of the hash, scaled.
unfoldable pub slot_of : ℕ → ℕ → ℕ
slot_of slots h = h % 4294967296 * slots / 4294967296

-- ---- The table

-- A probe from a slot finds h before each empty slot. (So of a full table this is always true.)
abbrev pub Contains : List ℕ → ℕ → ℕ → Type 0
Contains l slot h =
    h ≢ 0 → (i : ℕ) → slot ≤ i → i < length l → get_or l i 0 ≡ 0
    → (k : ℕ) × (slot ≤ k) × (k < i) × (get_or l k 0 ≡ h)

-- h was inserted into the table l, which is l' now, if it was not there. Answered false: it was not there.
pub record Inserted (l l' : List ℕ) (slot h : ℕ) (r : Bool) : Type 0 where
  pub contained : Contains l' slot h
  pub kept : (m g : ℕ) → Contains l m g → Contains l' m g
  pub new : r ≡ false → Contains l slot h → ⊥

-- The table contains the hash of each key of a list.
abbrev pub ContainsKeys : ℕ → List ℕ → List (List ℕ) → Type 0
ContainsKeys slots l ks = (k : List ℕ) → Memᴰ k ks → Contains l (slot_of slots (hash_of k)) (hash_of k)
