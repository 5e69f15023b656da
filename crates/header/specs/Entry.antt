-- What a statement is made of: its key, and the bytes of its value; and what it says, an entry. Grammar and functions share these.
use Rattle.std.specs.Prelude.{List, ℕ, suc, take}
use Rattle.scan.specs.Byte.{between}
use Rattle.scan.specs.declared.Span.{Span}
use Rattle.text.specs.Key.{key_of}
use Rattle.header.specs.declared.Header.{Header}
use Rattle.header.specs.declared.Statement.{Statement}

-- The file up to a header's `}`: offsets stay the file's, and the body ends where the list does. Statements are read in it.
abbrev pub body_of : List ℕ → Header → List ℕ
body_of s h = take h.right s

module _ (s : List ℕ) (t : Statement) where
  -- The key: what stands before the `=`, stripped and folded.
  unfoldable pub key : List ℕ
  key = key_of (between s t.first t.equals)

  -- The bytes between `=` and `;`.
  abbrev pub raw_value : List ℕ
  raw_value = between s (suc t.equals) t.end

-- A key, a value, and where the value stands in the file.
pub record Entry : Type 0 where
  pub key : List ℕ
  pub value : List ℕ
  pub span : Span
