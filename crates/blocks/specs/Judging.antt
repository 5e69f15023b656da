-- One block, as a function, with errors 9 to 12: by what its header says, its header's length, the file's length and the
-- file's rules. And whether a first header makes a file one of kind 2.
use Rattle.std.specs.Prelude.{Bool, true, false, cond, not, ◌&&◌, List, ℕ, suc, ◌+◌, ◌%◌, eqb, leb, ℤ, pos, negsuc, length, Option, None, Some, option_map, is_some, is_none, Ok, Err}
use Rattle.scan.specs.Outcome.{Outcome, require, present, ◌>>=◌, ◌>>◌}
use Rattle.scan.specs.Byte.{same}
use Rattle.text.specs.Number.{whole_number}
use Rattle.header.specs.Entries.{entries, value_in}
use Rattle.header.specs.Entry.{Entry, body_of}
use Rattle.header.specs.Frame.{header_at}
use Rattle.header.specs.Statements.{statements_from, statements_of}
use Rattle.header.specs.declared.Header.{Header}
use Rattle.header.specs.declared.Statement.{Statement}
use Rattle.blocks.specs.Counting.{first, second, is_edf_key, counting, counting_in, size_value}
use Rattle.blocks.specs.Keys.{VersionKey, DataBlocksKey, BlockIDKey, BoundaryKey, HeaderSizeKey, FileNameKey}
use Rattle.blocks.specs.Limits.{default_boundary, plain_boundary}
use Rattle.blocks.specs.Reading.{number_or, is_version, asked_for, identity_of}
use Rattle.blocks.specs.declared.Accepted.{Accepted}
use Rattle.blocks.specs.declared.FileRules.{FileRules}
use Rattle.blocks.specs.declared.Identity.{Identity}
use Rattle.blocks.specs.declared.Role.{Role}
use Rattle.blocks.specs.declared.Row.{Row}

-- ---- The rules that the first header gives the file

abbrev pub rules_with : ℕ → ℕ → ℕ → FileRules
rules_with kind boundary expected = record { kind = kind; boundary = boundary; expected = expected }

abbrev pub general_by : Option ℕ → Option ℕ → Option FileRules
general_by None boundary = None
general_by (Some expected) None = None
general_by (Some expected) (Some boundary) = Some (rules_with 2 boundary expected)

-- Of a general header.
unfoldable pub general_rules : List Entry → Option FileRules
general_rules es =
    cond (is_version (first es).value && same (second es).key DataBlocksKey)
    (general_by (asked_for (second es).value) (number_or default_boundary 1 (value_in BoundaryKey (counting es))))
    None

-- Of any first header; none where a rule is broken.
unfoldable pub rules_of : List Entry → Option FileRules
rules_of es =
    cond (is_edf_key (first es).key)
    (cond (same (first es).key VersionKey) (general_rules es)
    (cond (same (first es).key BlockIDKey) (Some (rules_with 2 default_boundary 0)) None))
    (Some (rules_with 1 plain_boundary 0))

-- ---- What a header says of its block

-- A block with no identity.
abbrev pub unnamed : ℕ → Role
unnamed kind = record { kind = kind; identity = record { sequence = pos 0; instance = 0; memory = pos 0 } }

-- In kind 1; of a general block, the first block where data blocks are asked for; and of a data block.
unfoldable pub role_of : FileRules → Bool → List Entry → Option Role
role_of r isFirst es =
    cond (eqb r.kind 1) (Some (unnamed 1))
    (cond (isFirst && not (eqb r.expected 0)) (Some (unnamed 0))
    (cond (same (first es).key BlockIDKey)
    (option_map (λ (i : Identity). record { kind = 1; identity = i }) (identity_of (first es).value))
    None))

-- ---- EDF_HeaderSize, where it counts

unfoldable pub is_whole_or_absent : Option (List ℕ) → Bool
is_whole_or_absent None = true
is_whole_or_absent (Some v) = is_some (whole_number v)

abbrev pub is_number : ℕ → Option ℤ → Bool
is_number n None = false
is_number n (Some (pos m)) = eqb m n
is_number n (Some (negsuc m)) = false

unfoldable pub is_length_or_absent : ℕ → Option (List ℕ) → Bool
is_length_or_absent n None = true
is_length_or_absent n (Some v) = is_number n (whole_number v)

-- 11: "length not a multiple, or not EDF_HeaderSize".
unfoldable pub length_allowed : FileRules → List Entry → ℕ → Bool
length_allowed r es header =
    eqb (header % r.boundary) 0 && is_length_or_absent header (value_in HeaderSizeKey (counting_in r.kind es))

-- ---- The block

abbrev pub row_with : ℕ → ℕ → ℕ → Role → Row
row_with start header size role =
    record {
      start = start;
      header = header;
      size = size;
      kind = role.kind;
      sequence = role.identity.sequence;
      instance = role.identity.instance;
      memory = role.identity.memory;
    }

-- By what its header says. 9: "a rule on EDF_ keys or Size broken, but for 10 to 15". 10: "EDF_BinaryFileName counts".
-- 12: "extent past the end".
unfoldable pub judged : FileRules → Bool → ℕ → ℕ → ℕ → List Entry → Outcome Accepted
judged r isFirst fileLength start header es = do
  role ← present (role_of r isFirst es) 9 start
  size ← present (number_or 0 0 (size_value r.kind es)) 9 start
  require (is_whole_or_absent (value_in HeaderSizeKey (counting_in r.kind es))) 9 start
  require (is_none (value_in FileNameKey (counting_in r.kind es))) 10 start
  require (length_allowed r es header) 11 start
  require (leb (start + header + size) fileLength) 12 start
  Ok (record { row = row_with start header size role; next = start + header + size; rules = r })

-- The rules for a block: the first header gives them, the others keep them.
abbrev pub rules_for : FileRules → Bool → List Entry → Option FileRules
rules_for r true es = rules_of es
rules_for r false es = Some r

-- The block at `start`, with errors 3 to 12 in their order.
unfoldable pub block_at : List ℕ → FileRules → Bool → ℕ → Outcome Accepted
block_at s given isFirst start = do
  h ← header_at s start
  ts ← statements_of s start h
  r ← present (rules_for given isFirst (entries (body_of s h) ts)) 9 start
  judged r isFirst (length s) start h.length (entries (body_of s h) ts)

-- ---- The kind, before the block is judged

-- By the statements of a header: it "has passed check 6" if they are well formed, and then its first key decides.
abbrev pub edf_first : List ℕ → Option (List Statement) → Bool
edf_first body None = false
edf_first body (Some ts) = is_edf_key (first (entries body ts)).key

abbrev pub edf_header : List ℕ → Outcome Header → Bool
edf_header s (Ok h) = edf_first (body_of s h) (statements_from (body_of s h) (suc h.left))
edf_header s (Err e) = false

-- The header at an offset, as the first of a file, "proves kind 2".
unfoldable pub proves_kind2 : List ℕ → ℕ → Bool
proves_kind2 s at = edf_header s (header_at s at)
