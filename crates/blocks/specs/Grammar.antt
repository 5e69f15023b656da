-- The grammar of a file: its partition into blocks. Facts about the file's bytes; nothing here says how a file is read,
-- and no error code stands here.
use Rattle.std.specs.Prelude.{◌≡◌, ◌≢◌, ◌⊎◌, true, ℕ, suc, ◌+◌, ◌*◌, ◌≤◌, ◌<◌, pos, length, Option, None, Some}
use mathlib.Core.List.{List, [], ◌∷◌, map, Memᴰ}
use Rattle.scan.specs.Byte.{byte, ascii}
use Rattle.scan.specs.Chain.{Chain}
use Rattle.text.specs.Whitespace.{whitespace}
use Rattle.header.specs.Entry.{Entry, body_of}
use Rattle.header.specs.Grammar.{IsHeader, Parse, SayAll}
use Rattle.header.specs.declared.Header.{Header}
use Rattle.header.specs.declared.Statement.{Statement}
use Rattle.blocks.specs.Places.{Kind, kind_1, kind_2, HasKey, StartsWithEdfKey, CountsAs, CountsIn, SizeIs}
use Rattle.blocks.specs.Values.{Absent, NumberOr, LengthOrAbsent, IsVersion, AsksFor, IsIdentity}
use Rattle.blocks.specs.declared.Row.{Row}

-- ---- What the first header says of the whole file

-- The file's kind, the boundary of its headers, and, if its first header is the general header, how many data blocks that asks for.
pub record Rules : Type 0 where
  pub kind : Kind
  pub boundary : ℕ
  pub general : Option ℕ

-- "its first key is EDF_DataFormatVersion (then it is the general header, and its second key is EDF_DataBlocks)".
-- "EDF_BlockBoundary counts in the general header only, is a whole number above 0, and holds for every header; else 512."
pub record GeneralHeader (es : List Entry) (r : Rules) : Type 0 where
  pub version : List ℕ
  pub version_key : HasKey es 0 (ascii "edf_dataformatversion") version
  pub version_is : IsVersion version
  pub blocks : List ℕ
  pub blocks_key : HasKey es 1 (ascii "edf_datablocks") blocks
  pub count : ℕ
  pub asks : AsksFor blocks count
  pub kind : r.kind ≡ kind_2
  pub boundary : NumberOr (CountsAs es (ascii "edf_blockboundary")) 512 1 r.boundary
  pub general : r.general ≡ Some count

-- The rules of a file with no general header. In kind 1 a header's "length need be no multiple of anything": each is a multiple of 1.
abbrev pub plain_rules : Kind → Rules
plain_rules kind_1 = record { kind = kind_1; boundary = 1; general = None }
plain_rules kind_2 = record { kind = kind_2; boundary = 512; general = None }

-- A first header with the entries `es` gives the file the rules `r`. "A file is of kind 2 exactly if its first header has a statement
-- and its key starts with `edf_`; else of kind 1." "Kind 2, first header: its first key is EDF_DataFormatVersion (..) or
-- EDF_DataBlockID."
pub data Declares (es : List Entry) (r : Rules) : Type 0 where
  plain : (StartsWithEdfKey es → ⊥) → r ≡ plain_rules kind_1 → Declares es r
  data-first : {id : List ℕ} → HasKey es 0 (ascii "edf_datablockid") id → r ≡ plain_rules kind_2 → Declares es r
  general-first : GeneralHeader es r → Declares es r

-- ---- What a header says of its own block

-- "The last three are 0 for a general block and in kind 1."
pub record NoIdentity (row : Row) : Type 0 where
  pub sequence : row.sequence ≡ pos 0
  pub instance : row.instance ≡ 0
  pub memory : row.memory ≡ pos 0

-- The kind of a block and its identity, for a header at `start` with the entries `es` in a file with the rules `r`. "Every other
-- header starts with EDF_DataBlockID." "Identity, the value of EDF_DataBlockID in each data block of kind 2".
pub data HasRole (r : Rules) (start : ℕ) (es : List Entry) (row : Row) : Type 0 where
  plain-block : r.kind ≡ kind_1 → row.kind ≡ 1 → NoIdentity row → HasRole r start es row
  general_block : {count : ℕ} → r.kind ≡ kind_2 → r.general ≡ Some count → start ≡ 0 → row.kind ≡ 0 → NoIdentity row
      → HasRole r start es row
  data_block : {id : List ℕ} → r.kind ≡ kind_2 → (r.general ≡ None) ⊎ (start ≢ 0) → row.kind ≡ 1 → HasKey es 0 (ascii "edf_datablockid") id
      → IsIdentity id row.sequence row.instance row.memory → HasRole r start es row

-- "the extent's length is Size (absent: 0)", or EDF_BinarySize, "a whole number from 0".
abbrev pub HasSize : Rules → List Entry → ℕ → Type 0
HasSize r es size = NumberOr (SizeIs r.kind es) 0 0 size

-- "a multiple of the boundary".
abbrev pub MultipleOf : ℕ → ℕ → Type 0
MultipleOf boundary size = (n : ℕ) × (size ≡ n * boundary)

-- All the rules on the keys of one header. "EDF_BinaryFileName must not count."
pub record KeepsRules (r : Rules) (start : ℕ) (es : List Entry) (row : Row) : Type 0 where
  pub role : HasRole r start es row
  pub size : HasSize r es row.size
  pub no_file_name : Absent (CountsIn r.kind es (ascii "edf_binaryfilename"))
  pub multiple : MultipleOf r.boundary row.header
  pub header_size : LengthOrAbsent (CountsIn r.kind es (ascii "edf_headersize")) row.header

-- ---- Blocks, and the whole file

-- A header at `start`, its parse, and what its statements say.
pub record HasHeader (s : List ℕ) (start : ℕ) (h : Header) (ts : List Statement) (es : List Entry) : Type 0 where
  pub header : IsHeader s start h
  pub parse : Parse s h ts
  pub says : SayAll (body_of s h) ts es

-- In kind 1 "a header starts at its brace"; "a kind 2 file keeps its start patterns".
abbrev pub StartsAtBrace : Kind → ℕ → Header → Type 0
StartsAtBrace kind start h = kind ≡ kind_1 → h.left ≡ start

-- The bytes from one offset up to, not including, another are in no block of a file of a kind. "in kind 1, white may stand before the
-- first header, between blocks and after the last, in no row"; in kind 2 there are no such bytes.
pub record Gap (s : List ℕ) (kind : Kind) (from to : ℕ) : Type 0 where
  pub order : from ≤ to
  pub only_whitespace : (k : ℕ) → from ≤ k → k < to → whitespace (byte s k) ≡ true
  pub end_to_end : kind ≡ kind_2 → from ≡ to

-- "A block is a header, then an extent": a block with the row stands from `at` up to `next`.
pub record IsBlock (s : List ℕ) (r : Rules) (at : ℕ) (row : Row) (next : ℕ) : Type 0 where
  pub header : Header
  pub statements : List Statement
  pub entries : List Entry
  pub stands : HasHeader s at header statements entries
  pub brace : StartsAtBrace r.kind at header
  pub starts : row.start ≡ at
  pub length_is : row.header ≡ header.length
  pub rules : KeepsRules r at entries row
  pub ends : next ≡ at + row.header + row.size
  pub inside : next ≤ length s

-- A block with the row, behind bytes from `at` on that are in none.
pub record SpacedBlock (s : List ℕ) (r : Rules) (at : ℕ) (row : Row) (next : ℕ) : Type 0 where
  pub gap : Gap s r.kind at row.start
  pub block : IsBlock s r row.start row next

-- The first header of a file of a kind says `es`.
pub record HeadsFile (s : List ℕ) (kind : Kind) (es : List Entry) : Type 0 where
  pub start : ℕ
  pub header : Header
  pub statements : List Statement
  pub gap : Gap s kind 0 start
  pub stands : HasHeader s start header statements es
  pub brace : StartsAtBrace kind start header

-- The first header gives the file the rules `r`: "Kind is still judged by the first header".
pub record FirstHeader (s : List ℕ) (r : Rules) : Type 0 where
  pub entries : List Entry
  pub heads : HeadsFile s r.kind entries
  pub declares : Declares entries r

-- Two data blocks with the same identity.
pub record SameIdentity (x y : Row) : Type 0 where
  pub one : x.kind ≡ 1
  pub other : y.kind ≡ 1
  pub sequence : x.sequence ≡ y.sequence
  pub instance : x.instance ≡ y.instance
  pub memory : x.memory ≡ y.memory

-- "No two of these blocks have the same three values."
abbrev pub DistinctIdentities : List Row → Type 0
DistinctIdentities [] = Unit {0}
DistinctIdentities (x ∷ xs) = ((y : Row) → Memᴰ y xs → SameIdentity x y → ⊥) × DistinctIdentities xs

-- "equal to the blocks beside the general one", where there is a general one.
abbrev pub CountIs : Option ℕ → ℕ → Type 0
CountIs None count = Unit {0}
CountIs (Some asked) count = count ≡ suc asked

-- A partition of a file into blocks (01: a cut), each given by its row: "A file is 1 to 256 blocks", "that keeps every rule of this
-- section, judged by the file's bytes alone"; "in a cut the blocks and such white together use up every byte".
pub record Partition (s : List ℕ) (rows : List Row) : Type 0 where
  pub rules : Rules
  pub first_header : FirstHeader s rules
  pub blocks : Chain (SpacedBlock s rules) (λ at. Gap s rules.kind at (length s)) 0 rows
  pub not_empty : 1 ≤ length rows
  pub few : length rows ≤ 256
  pub identities : rules.kind ≡ kind_2 → DistinctIdentities rows
  pub count : CountIs rules.general (length rows)

-- 01's own form: "each given by start, header length and extent length". The rest of a row follows from the file's bytes.
pub record Block : Type 0 where
  pub start : ℕ
  pub header_length : ℕ
  pub data_length : ℕ

abbrev pub block_of : Row → Block
block_of row = record { start = row.start; header_length = row.header; data_length = row.size }

pub record Cut (s : List ℕ) (blocks : List Block) : Type 0 where
  pub rows : List Row
  pub partition : Partition s rows
  pub are : blocks ≡ map block_of rows

-- The header of a block, and a parse of it.
pub record BlockHeader (s : List ℕ) (b : Block) : Type 0 where
  pub header : Header
  pub statements : List Statement
  pub stands : IsHeader s b.start header
  pub length_is : b.header_length ≡ header.length
  pub parse : Parse s header statements
