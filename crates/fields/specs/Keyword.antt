-- A keyword of a block, by the grammar: which statement of which header it is. Nothing here says how it is looked up.
use Rattle.std.specs.Prelude.{◌≡◌, List, ℕ, Some, slice_get}
use Rattle.text.specs.Key.{key_of}
use Rattle.header.specs.Entry.{Entry}
use Rattle.header.specs.declared.Header.{Header}
use Rattle.header.specs.declared.Statement.{Statement}
use Rattle.blocks.specs.Grammar.{HasHeader}
use Rattle.blocks.specs.Places.{EntryAt, IsEdfKey}
use Rattle.blocks.specs.declared.Row.{Row}

-- The header at `start` has a statement with the key, at any place; the statement says e.
pub record HeaderHas (s : List ℕ) (start : ℕ) (key : List ℕ) (e : Entry) : Type 0 where
  pub header : Header
  pub statements : List Statement
  pub entries : List Entry
  pub stands : HasHeader s start header statements entries
  pub number : ℕ
  pub at : EntryAt entries number e
  pub key_is : e.key ≡ key

abbrev pub HeaderLacks : List ℕ → ℕ → List ℕ → Type 0
HeaderLacks s start key = (e : Entry) → HeaderHas s start key e → ⊥

-- "for a data block and keys not starting `edf_`, in the general header": that is the header of the first block, if its kind is 0.
pub record Inherits (rows : List Row) (row : Row) (key : List ℕ) : Type 0 where
  pub data_block : row.kind ≡ 1
  pub first : Row
  pub first_is : slice_get rows 0 ≡ Some first
  pub general : first.kind ≡ 0
  pub no_edf_key : IsEdfKey key → ⊥

-- "A keyword is looked up in the block's own header, any position, then, for a data block and keys not starting `edf_`, in the general
-- header. The sought key is stripped and folded too": in a file with the rows `rows`, the block of a row has the keyword, and its statement
-- says e.
pub data HasKeyword (s : List ℕ) (rows : List Row) (row : Row) (sought : List ℕ) (e : Entry) : Type 0 where
  own : HeaderHas s row.start (key_of sought) e → HasKeyword s rows row sought e
  general : HeaderLacks s row.start (key_of sought) → Inherits rows row (key_of sought) → HeaderHas s 0 (key_of sought) e
      → HasKeyword s rows row sought e

-- No statement in reach has it.
abbrev pub LacksKeyword : List ℕ → List Row → Row → List ℕ → Type 0
LacksKeyword s rows row sought = (e : Entry) → HasKeyword s rows row sought e → ⊥
