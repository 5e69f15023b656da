-- The cases of 01's table of errors for blocks, 9 to 15, as facts about the file: in which case each code is due. Nothing here
-- says how a file is read.
use Rattle.std.specs.Prelude.{◌≡◌, ◌≢◌, false, ℕ, ◌+◌, ◌≤◌, ◌<◌, length}
use mathlib.Core.List.{List, Memᴰ}
use Rattle.scan.specs.Byte.{byte, ascii}
use Rattle.scan.specs.Chain.{Chain}
use Rattle.scan.specs.Outcome.{error_at}
use Rattle.scan.specs.declared.Error.{Error}
use Rattle.text.specs.Whitespace.{whitespace}
use Rattle.header.specs.Entry.{Entry, body_of}
use Rattle.header.specs.Cases.{NoStart, FrameError, Statements, StatementsError}
use Rattle.header.specs.Grammar.{StartPattern, IsHeader, SayAll}
use Rattle.header.specs.declared.Header.{Header}
use Rattle.header.specs.declared.Statement.{Statement}
use Rattle.blocks.specs.Grammar.{Rules, Declares, HasRole, HasSize, MultipleOf, HasHeader, Gap, SpacedBlock, FirstHeader, SameIdentity, DistinctIdentities, CountIs}
use Rattle.blocks.specs.Places.{Kind, kind_1, kind_2, StartsWithEdfKey, CountsIn}
use Rattle.blocks.specs.Values.{Absent, WholeOrAbsent, LengthOrAbsent}
use Rattle.blocks.specs.declared.Row.{Row}

-- ---- One header, by what it says

-- No rule that 9 stands for is broken: there is a row with what the keys say.
pub record Readable (r : Rules) (start : ℕ) (es : List Entry) (row : Row) : Type 0 where
  pub role : HasRole r start es row
  pub size : HasSize r es row.size
  pub header_size : WholeOrAbsent (CountsIn r.kind es (ascii "edf_headersize"))

-- Neither case of 11, "length not a multiple, or not EDF_HeaderSize": the length is a multiple, and EDF_HeaderSize where that counts.
pub record LengthKept (r : Rules) (es : List Entry) (header : ℕ) : Type 0 where
  pub multiple : MultipleOf r.boundary header
  pub header_size : LengthOrAbsent (CountsIn r.kind es (ascii "edf_headersize")) header

-- The error of a header at `start` that is `header` bytes long and says `es`, in a file with the rules `r` and `end` bytes.
pub data KeyError (r : Rules) (start end header : ℕ) (es : List Entry) : Error → Type 0 where
  -- 9: "a rule on EDF_ keys or Size broken, but for 10 to 15"
  rule-broken : ((row : Row) → Readable r start es row → ⊥) → KeyError r start end header es (error_at 9 start)
  -- 10: "EDF_BinaryFileName counts"
  file_name : {row : Row} {name : List ℕ} → Readable r start es row → CountsIn r.kind es (ascii "edf_binaryfilename") name
      → KeyError r start end header es (error_at 10 start)
  -- 11: "length not a multiple, or not EDF_HeaderSize"
  bad-length : {row : Row} → Readable r start es row → Absent (CountsIn r.kind es (ascii "edf_binaryfilename"))
      → (LengthKept r es header → ⊥) → KeyError r start end header es (error_at 11 start)
  -- 12: "extent past the end"
  past_end : {row : Row} → Readable r start es row → Absent (CountsIn r.kind es (ascii "edf_binaryfilename")) → LengthKept r es header
      → end < start + header + row.size → KeyError r start end header es (error_at 12 start)

-- ---- One block

-- The error of the block at `start`: of its frame (3, 4, 5), of its statements (6, 7, 8), of the rules on the first header (9), of
-- the rules on its keys (9 to 12). `RulesAre es r`: the rules for a block whose header says `es` are r.
pub data BlockError (s : List ℕ) (RulesAre : List Entry → Rules → Type 0) (start : ℕ) : Error → Type 0 where
  in_frame : {e : Error} → FrameError s start e → BlockError s RulesAre start e
  in-statements : {h : Header} {e : Error} → IsHeader s start h → StatementsError s h start e → BlockError s RulesAre start e
  no-rules : {h : Header} {ts : List Statement} {es : List Entry} → HasHeader s start h ts es → ((r : Rules) → RulesAre es r → ⊥)
      → BlockError s RulesAre start (error_at 9 start)
  in-keys : {h : Header} {ts : List Statement} {es : List Entry} {r : Rules} {e : Error} → HasHeader s start h ts es → RulesAre es r
      → KeyError r start (length s) h.length es e → BlockError s RulesAre start e

-- ---- Where a block is looked for

-- The first offset from `end` on that can be in a block of a file of a kind: in kind 2 `end` itself, in kind 1 "the first non-white
-- byte". Where only whitespace is left that is the file's length, for past the end no whitespace stands.
pub record NextAt (s : List ℕ) (kind : Kind) (end at : ℕ) : Type 0 where
  pub gap : Gap s kind end at
  pub visible : kind ≡ kind_1 → whitespace (byte s at) ≡ false

-- The header at an offset, as the first of a file, "proves kind 2": it is whole and "has passed check 6", since its statements are well
-- formed, and the first of them has an EDF_ key.
pub record ProvesKind2 (s : List ℕ) (at : ℕ) : Type 0 where
  pub header : Header
  pub statements : List Statement
  pub entries : List Entry
  pub stands : IsHeader s at header
  pub shape : Statements s header statements
  pub says : SayAll (body_of s header) statements entries
  pub edf : StartsWithEdfKey entries

-- Where the first block is judged. "Until the first header has passed check 6 it is judged as kind 1, its place and its 65,536 bytes
-- counted from the brace", at the first non-white byte; "if the first header proves kind 2", it is judged at 0.
pub data FirstAt (s : List ℕ) : ℕ → Type 0 where
  at-brace : {at : ℕ} → NextAt s kind_1 0 at → (ProvesKind2 s at → ⊥) → FirstAt s at
  at_zero : {at : ℕ} → NextAt s kind_1 0 at → ProvesKind2 s at → FirstAt s 0

-- What can be wrong with the frame of such a header, h from its brace at `at`, judged at 0: "3 at 0 comes where no start pattern stands
-- at 0, then 5 at 0 where pattern and header together pass 65,536".
pub data ZeroFrameError (s : List ℕ) (at : ℕ) (h : Header) : Error → Type 0 where
  no-pattern : NoStart s 0 → ZeroFrameError s at h (error_at 3 0)
  too_long : StartPattern s 0 at → 65536 < at + h.length → ZeroFrameError s at h (error_at 5 0)

-- ---- The file

-- Blocks that pass: they stand from 0 up to `end`, with whitespace between them in kind 1, under the rules that the first header
-- gives, with distinct identities.
pub record Passed (s : List ℕ) (r : Rules) (rows : List Row) (end : ℕ) : Type 0 where
  pub first_header : FirstHeader s r
  pub blocks : Chain (SpacedBlock s r) (λ at. at ≡ end) 0 rows
  pub not_empty : 1 ≤ length rows
  pub few : length rows ≤ 256
  pub identities : r.kind ≡ kind_2 → DistinctIdentities rows

-- A row has the identity of one of some rows.
pub record Repeats (r : Rules) (rows : List Row) (x : Row) : Type 0 where
  pub kind : r.kind ≡ kind_2
  pub row : Row
  pub member : Memᴰ row rows
  pub same : SameIdentity row x

-- The error of a file, by the blocks that pass before it: "block by block in the order below, .. 14 before anything else of its
-- block; 15 last".
pub data FileError (s : List ℕ) : Error → Type 0 where
  -- 3 to 12 of the first block, whose own header gives the rules, and of a later one
  first_block : {at : ℕ} {e : Error} → FirstAt s at → BlockError s Declares at e → FileError s e
  later-block : {r : Rules} {rows : List Row} {end at : ℕ} {e : Error} → Passed s r rows end → length rows < 256
      → NextAt s r.kind end at → at ≢ length s → BlockError s (λ es x. x ≡ r) at e → FileError s e
  -- 13: "identity twice"
  identity-twice : {r : Rules} {rows : List Row} {end next : ℕ} {row : Row} → Passed s r rows end → length rows < 256
      → SpacedBlock s r end row next → Repeats r rows row → FileError s (error_at 13 row.start)
  -- 14: "bytes left after 256 blocks"; it "in kind 1 needs a non-white byte left, and its place is that byte"
  too_many : {r : Rules} {rows : List Row} {end at : ℕ} → Passed s r rows end → length rows ≡ 256
      → NextAt s r.kind end at → at ≢ length s → FileError s (error_at 14 at)
  -- 15: "EDF_DataBlocks does not match"
  wrong-count : {r : Rules} {rows : List Row} {end : ℕ} → Passed s r rows end → Gap s r.kind end (length s)
      → (CountIs r.general (length rows) → ⊥) → FileError s (error_at 15 0)
