-- The value of a statement, as a relation: which of the bytes between `=` and `;` it is, and where it stands in them. Nothing here
-- says how it is found.
use Rattle.std.specs.Prelude.{◌≡◌, ◌≢◌, true, false, ℕ, ◌+◌, length}
use mathlib.Core.List.{List, [], ◌∷◌, ◌++◌, Memᴰ}
use Rattle.text.specs.Whitespace.{whitespace}

-- ---- "A value is trimmed of white at both ends"

abbrev pub AllWhitespace : List ℕ → Type 0
AllWhitespace l = (b : ℕ) → Memᴰ b l → whitespace b ≡ true

-- It starts, and it ends, with a byte that is no whitespace.
pub record VisibleEnds (l : List ℕ) : Type 0 where
  pub first : ℕ
  pub after : List ℕ
  pub last : ℕ
  pub before : List ℕ
  pub starts : l ≡ first ∷ after
  pub ends : l ≡ before ++ (last ∷ [])
  pub first_visible : whitespace first ≡ false
  pub last_visible : whitespace last ≡ false

-- Where it is empty nothing follows it: "all white is empty at its `;`".
pub data TightEnds : List ℕ → List ℕ → Type 0 where
  empty : TightEnds [] []
  visible : {l back : List ℕ} → VisibleEnds l → TightEnds l back

-- The bytes `raw` are whitespace, then `l`, then whitespace: l stands at an offset in them.
pub record Trimmed (raw : List ℕ) (offset : ℕ) (l : List ℕ) : Type 0 where
  pub front : List ℕ
  pub back : List ℕ
  pub is : raw ≡ front ++ (l ++ back)
  pub stands : offset ≡ length front
  pub front_whitespace : AllWhitespace front
  pub back_whitespace : AllWhitespace back
  pub tight : TightEnds l back

-- ---- Quotes

-- "then loses one leading `"` if it has one": n bytes go.
pub data WithoutLeading : List ℕ → ℕ → List ℕ → Type 0 where
  quote : {l : List ℕ} → WithoutLeading (34 ∷ l) 1 l
  plain : {l : List ℕ} → ((rest : List ℕ) → l ≢ 34 ∷ rest) → WithoutLeading l 0 l

-- "then one trailing `"` if it still has one."
pub data WithoutTrailing : List ℕ → List ℕ → Type 0 where
  quote : {l : List ℕ} → WithoutTrailing (l ++ (34 ∷ [])) l
  plain : {l : List ℕ} → ((rest : List ℕ) → l ≢ rest ++ (34 ∷ [])) → WithoutTrailing l l

-- ---- The value

-- The value of the bytes between `=` and `;`: trimmed, then unquoted. It stands at an offset in them.
pub record IsValue (raw : List ℕ) (offset : ℕ) (value : List ℕ) : Type 0 where
  pub trimmed : List ℕ
  pub unopened : List ℕ
  pub before : ℕ
  pub quotes : ℕ
  pub trim : Trimmed raw before trimmed
  pub leading : WithoutLeading trimmed quotes unopened
  pub trailing : WithoutTrailing unopened value
  pub stands : offset ≡ before + quotes
