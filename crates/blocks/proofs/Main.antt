-- The main theorems about the grammar, stated. Their proofs are in the files beside this one, in `lexical` and in `header`.
use Rattle.std.specs.Prelude.{Some, Ok, Err}
use mathlib.Core.Path.{◌≡◌}
use mathlib.Core.Logic.{◌↔◌}
use mathlib.Core.List.{List, map, Memᴰ}
use Prim.Native.Nat.{ℕ, ◌+◌, ◌≤◌, ◌<◌}
use lib.IntN.{ℤ}
use lib.ListN.{length, take}
use Rattle.scan.specs.Byte.{bytes_at}
use Rattle.scan.specs.declared.Error.{Error}
use Rattle.text.specs.Number.{whole_number}
use Rattle.text.specs.Value.{trimmed, value_span, value_of}
use Rattle.lexical.specs.Value.{Trimmed, IsValue}
use Rattle.lexical.specs.Whole.{IsWhole}
use Rattle.lexical.proofs.TrimLaws.{trimmed_is}
use Rattle.lexical.proofs.ValueLaws.{value_is}
use Rattle.lexical.proofs.WholeLaws.{whole_is}
use Rattle.header.specs.Cases.{FrameError}
use Rattle.header.specs.Entries.{entries, value_in}
use Rattle.header.specs.Entry.{Entry, body_of, key}
use Rattle.header.specs.Grammar.{IsHeader, Distinct, Parse, SayAll}
use Rattle.header.specs.declared.Header.{Header}
use Rattle.header.specs.declared.Statement.{Statement}
use Rattle.header.proofs.SayLaws.{entries_say, entries_only}
use Rattle.header.proofs.Spans.{InHeader}
use Rattle.header.proofs.Spans
use Rattle.header.proofs.Unambiguous as header
use Rattle.blocks.specs.Cases.{NextAt, ProvesKind2, ZeroFrameError, Passed, FileError}
use Rattle.blocks.specs.Counting.{counting, counting_in, size_value}
use Rattle.blocks.specs.Grammar.{Rules, DistinctIdentities, Partition, Block, Cut, BlockHeader}
use Rattle.blocks.specs.Opening.{opened, opened_file}
use Rattle.blocks.specs.Places.{Kind, kind_1, kind_2, EntryAt, Counts, CountsIn, SizeIs}
use Rattle.blocks.specs.declared.Row.{Row}
use Rattle.blocks.proofs.Answers.{opened_error, file_accepted}
use Rattle.blocks.proofs.Coded.{kind_number, kind_reads, size-reads}
use Rattle.blocks.proofs.Complete
use Rattle.blocks.proofs.Covered.{Covered}
use Rattle.blocks.proofs.Covered
use Rattle.blocks.proofs.Errors.{Bounded}
use Rattle.blocks.proofs.Errors
use Rattle.blocks.proofs.FirstErrors
use Rattle.blocks.proofs.KindErrors.{HeadsKind2}
use Rattle.blocks.proofs.KindErrors
use Rattle.blocks.proofs.PlaceLaws.{DistinctKeys, counting_is}
use Rattle.blocks.proofs.Prefix
use Rattle.blocks.proofs.Sound
use Rattle.blocks.proofs.Unambiguous
use Rattle.blocks.proofs.ValueLaws.{reads_is}

-- ---- The functions of the reader give the grammar's parts, and nothing else

-- Whole numbers,
pub whole_numbers : (l : List ℕ) {z : ℤ} → (whole_number l ≡ Some z) ↔ IsWhole l z
whole_numbers = whole_is

-- values, and where they stand in the bytes between `=` and `;`,
pub values : (raw : List ℕ) {offset : ℕ} {v : List ℕ} → (((value_span raw).offset ≡ offset) × (value_of raw ≡ v)) ↔ IsValue raw offset v
values = value_is

pub trimming : (raw : List ℕ) {offset : ℕ} {l : List ℕ} → (((trimmed raw).offset ≡ offset) × (bytes_at raw (trimmed raw) ≡ l)) ↔ Trimmed raw offset l
trimming = trimmed_is

-- what the statements of a header say,
pub said : (s : List ℕ) {ts : List Statement} {es : List Entry} → (es ≡ entries s ts) ↔ SayAll s ts es
said s {ts} = (λ e. rw e (entries_say s ts), entries_only s)

-- which of them count, in a file of either kind, and which gives the length of the data.
pub counts : (es : List Entry) {n : ℕ} {e : Entry} → EntryAt (counting es) n e ↔ Counts es n e
counts = counting_is

module _ {es : List Entry} (distinct : DistinctKeys es) (kind : Kind) {v : List ℕ} where
  pub counts_in : (k : List ℕ) → (value_in k (counting_in (kind_number kind) es) ≡ Some v) ↔ CountsIn kind es k v
  counts_in k = reads_is (kind_reads distinct kind k)

  pub sizes : (size_value (kind_number kind) es ≡ Some v) ↔ SizeIs kind es v
  sizes = reads_is (size-reads distinct kind)

module _ (s : List ℕ) where
  -- ---- Unambiguous

  -- At one offset at most one header stands, and it has one length.
  pub one_header : {at : ℕ} {h g : Header} → IsHeader s at h → IsHeader s at g → h ≡ g
  one_header = header.header_unique

  -- Any two parses of one header are equal.
  pub one_parse : {h : Header} {ts us : List Statement} → Parse s h ts → Parse s h us → ts ≡ us
  one_parse = header.parse_unique

  -- Any two partitions of one file are equal, with every field of every row.
  pub one_partition : {rows others : List Row} → Partition s rows → Partition s others → rows ≡ others
  one_partition = Unambiguous.partition_unique

  -- And so are any two cuts, given by start, header length and data length alone.
  pub one_cut : {blocks others : List Block} → Cut s blocks → Cut s others → blocks ≡ others
  one_cut = Unambiguous.cut_unique

  -- Every header of a cut has a parse.
  pub has_parse : {blocks : List Block} → Cut s blocks → {b : Block} → Memᴰ b blocks → BlockHeader s b
  has_parse = Unambiguous.cut_header

  -- ---- Sound and complete

  -- Opening gives rows exactly if these are a partition of the file: its count of blocks, its rows, every field.
  pub accepts : {rows : List Row} → (opened s ≡ Ok rows) ↔ Partition s rows
  accepts = (Sound.opened-sound s, Complete.opened_complete s)

  -- So does the call, for a file of at most 1,073,741,824 bytes.
  pub accepts_file : length s ≤ 1073741824 → {rows : List Row} → (opened_file s ≡ Ok rows) ↔ Partition s rows
  accepts_file = file_accepted s

  -- A file has 1 to 256 blocks.
  pub some_and_few : {rows : List Row} → Partition s rows → (1 ≤ length rows) × (length rows ≤ 256)
  some_and_few c = (c.not_empty, c.few)

  -- A file that has no partition gets an error, with a code from 3 to 15.
  pub refuses : ((rows : List Row) → Partition s rows → ⊥) → (e : Error) × (opened s ≡ Err e) × Bounded s e
  refuses = opened_error s

  -- Each code with its position is given exactly in its case: that of the first block that fails, as `FileError` states it.
  pub errors : {e : Error} → (opened s ≡ Err e) ↔ FileError s e
  errors = (Sound.error-sound s, Complete.error_complete s)

  -- 11 "in kind 2 only": its first header starts with an EDF_ key.
  pub length_errors : {e : Error} → FileError s e → e.code ≡ 11 → HeadsKind2 s
  length_errors = KindErrors.length_error

  -- The first header, where it proves kind 2: "3 at 0 comes where no start pattern stands at 0, then 5 at 0 where pattern and header
  -- together pass 65,536", and nothing else is wrong with its frame.
  pub first_of_kind_2 : {at : ℕ} → NextAt s kind_1 0 at → (p : ProvesKind2 s at) → {e : Error} → FrameError s 0 e ↔ ZeroFrameError s at p.header e
  first_of_kind_2 n p = FirstErrors.zero_frame n p

  -- ---- Nothing is invented

  -- "in a cut the blocks and such white together use up every byte": each is in a block, or is whitespace in kind 1.
  pub every_byte : {rows : List Row} (c : Partition s rows) (k : ℕ) → k < length s → Covered s c.rules.kind rows k
  every_byte = Covered.every_byte

  -- Every row lies inside the file.
  pub row_inside : {rows : List Row} → Partition s rows → {row : Row} → Memᴰ row rows → row.start + row.header + row.size ≤ length s
  row_inside = Unambiguous.row_inside

  -- Every position lies in the file or is its length.
  pub error_inside : {e : Error} → FileError s e → Bounded s e
  error_inside = Errors.error_bounded

  -- A statement lies inside its header, and its value's span inside the statement.
  pub statement_inside : {h : Header} {ts : List Statement} {t : Statement} → Parse s h ts → Memᴰ t ts → InHeader s h t
  statement_inside = Spans.statement_in_header

  -- ---- For later proofs

  -- The blocks before an offset do not depend on what follows it.
  pub blocks_before : (t : List ℕ) (n : ℕ) → take n s ≡ take n t → {r : Rules} {rows : List Row} {end : ℕ} → end ≤ n
      → Passed s r rows end → Passed t r rows end
  blocks_before t n = Prefix.passed_local n s t

  -- The keys of a header are distinct, and so are the identities of a file.
  pub distinct_keys : {h : Header} {ts : List Statement} → Parse s h ts → Distinct (map (key (body_of s h)) ts)
  distinct_keys p = p.distinct

  pub distinct_identities : {rows : List Row} (c : Partition s rows) → c.rules.kind ≡ kind_2 → DistinctIdentities rows
  distinct_identities c = c.identities
