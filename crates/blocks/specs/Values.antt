-- What the values of the keys for blocks mean, as relations between a value's bytes and what they stand for.
use Rattle.std.specs.Prelude.{◌≡◌, ◌≢◌, ℕ, ◌≤◌, ℤ, pos}
use mathlib.Core.List.{List, [], ◌∷◌, ◌++◌, Memᴰ}
use Rattle.scan.specs.Byte.{ascii}
use Rattle.lexical.specs.Whole.{IsWhole}

-- ---- Keys that may be absent. `Has v`: the key is there, with the value v.

module _ (Has : List ℕ → Type 0) where
  abbrev pub Absent : Type 0
  Absent = (v : List ℕ) → Has v → ⊥

  -- A whole number from `least`, or `default` where the key is absent: Size and EDF_BinarySize ("absent: 0", "a whole number
  -- from 0") and EDF_BlockBoundary ("a whole number above 0 .. else 512").
  pub data NumberOr (default least : ℕ) : ℕ → Type 0 where
    absent : Absent → NumberOr default least default
    given : {v : List ℕ} {n : ℕ} → Has v → IsWhole v (pos n) → least ≤ n → NumberOr default least n

  -- "EDF_HeaderSize, if it counts, is a whole number (else 9) and the header's length."
  pub data WholeOrAbsent : Type 0 where
    absent : Absent → WholeOrAbsent
    given : {v : List ℕ} {z : ℤ} → Has v → IsWhole v z → WholeOrAbsent

  pub data LengthOrAbsent (header : ℕ) : Type 0 where
    absent : Absent → LengthOrAbsent header
    given : {v : List ℕ} → Has v → IsWhole v (pos header) → LengthOrAbsent header

-- ---- The version, the count and the identity

-- "The version is digits, not all 0, a point, two digits."
pub record IsVersion (v : List ℕ) : Type 0 where
  pub major : List ℕ
  pub tens : ℕ
  pub units : ℕ
  pub is : v ≡ major ++ (46 ∷ tens ∷ units ∷ [])
  pub digits : (b : ℕ) → Memᴰ b (tens ∷ units ∷ major) → (48 ≤ b) × (b ≤ 57)
  pub not_zero : (b : ℕ) × Memᴰ b major × (b ≢ 48)

-- "EDF_DataBlocks is a whole number from 1, equal to the blocks beside the general one, or `Undetermined` where there is just
-- one": the value asks for n data blocks.
pub data AsksFor : List ℕ → ℕ → Type 0 where
  number : {v : List ℕ} {n : ℕ} → IsWhole v (pos n) → 1 ≤ n → AsksFor v n
  undetermined : AsksFor (ascii "Undetermined") 1

-- "instance `Psd` or `Error`", 1 and 2 in a row.
pub data Instance : List ℕ → ℕ → Type 0 where
  psd : Instance (ascii "Psd") 1
  error : Instance (ascii "Error") 2

-- "memory a whole number from 2, left out for 1", with the point before it.
pub data Memory : List ℕ → ℤ → Type 0 where
  omitted : Memory [] (pos 1)
  given : {m : List ℕ} {n : ℕ} → IsWhole m (pos n) → 2 ≤ n → Memory (46 ∷ m) (pos n)

-- "Identity .. `sequence.Image.instance` or with `.memory`; sequence a whole number".
pub record IsIdentity (v : List ℕ) (sequence : ℤ) (instance : ℕ) (memory : ℤ) : Type 0 where
  pub number : List ℕ
  pub word : List ℕ
  pub rest : List ℕ
  pub is : v ≡ number ++ (ascii ".Image." ++ (word ++ rest))
  pub sequence_is : IsWhole number sequence
  pub instance_is : Instance word instance
  pub memory_is : Memory rest memory
