-- The grammar of a header: its frame, and its parse into statements. These are facts about offsets of the file's bytes;
-- nothing here says how a header is read.
use Rattle.std.specs.Prelude.{◌≡◌, ◌≢◌, true, ℕ, suc, ◌+◌, ◌≤◌, ◌<◌, length}
use mathlib.Core.List.{List, [], ◌∷◌, map, Memᴰ}
use Rattle.scan.specs.Byte.{byte}
use Rattle.scan.specs.Chain.{Chain}
use Rattle.text.specs.Whitespace.{whitespace}
use Rattle.lexical.specs.Value.{Trimmed, IsValue}
use Rattle.header.specs.Entry.{Entry, body_of, key, raw_value}
use Rattle.header.specs.declared.Header.{Header}
use Rattle.header.specs.declared.Statement.{Statement}

-- ---- The frame

-- "Header: nothing, LF or CR LF; then `{`": the start pattern from `start`, with its `{` at the index.
pub data StartPattern (s : List ℕ) (start : ℕ) : ℕ → Type 0 where
  bare : byte s start ≡ 123 → StartPattern s start start
  lf : byte s start ≡ 10 → byte s (start + 1) ≡ 123 → StartPattern s start (start + 1)
  crlf : byte s start ≡ 13 → byte s (start + 1) ≡ 10 → byte s (start + 2) ≡ 123 → StartPattern s start (start + 2)

-- "then `}` LF or `}` CR LF": the end pattern with its `}` at `right`, up to, not including, the index.
pub data EndPattern (s : List ℕ) (right : ℕ) : ℕ → Type 0 where
  lf : byte s right ≡ 125 → byte s (right + 1) ≡ 10 → EndPattern s right (right + 2)
  crlf : byte s right ≡ 125 → byte s (right + 1) ≡ 13 → byte s (right + 2) ≡ 10 → EndPattern s right (right + 3)

-- "The body holds only bytes 1 to 127 and no brace."
pub record BodyByte (b : ℕ) : Type 0 where
  pub above : 1 ≤ b
  pub below : b ≤ 127
  pub not_left : b ≢ 123
  pub not_right : b ≢ 125

-- A header stands at `start`. "The header, first pattern byte to last, is at most 65,536 bytes"
pub record IsHeader (s : List ℕ) (start : ℕ) (h : Header) : Type 0 where
  pub opening : StartPattern s start h.left
  pub order : h.left < h.right
  pub body : (k : ℕ) → h.left < k → k < h.right → BodyByte (byte s k)
  pub closing : EndPattern s h.right (start + h.length)
  pub short : h.length ≤ 65536

-- ---- The statements

-- "A statement is key, `=`, value, `;`. The key ends at the first `=`, the value at the first `;` after it; neither holds
-- `;`. A value may hold `=`." At least one character of the key remains.
pub record IsStatement (s : List ℕ) (t : Statement) : Type 0 where
  pub key_first : t.first ≤ t.equals
  pub key_plain : (k : ℕ) → t.first ≤ k → k < t.equals → (byte s k ≢ 61) × (byte s k ≢ 59)
  pub equals_is : byte s t.equals ≡ 61
  pub value_after : t.equals < t.end
  pub value_plain : (k : ℕ) → t.equals < k → k < t.end → byte s k ≢ 59
  pub end_is : byte s t.end ≡ 59
  pub key_some : 1 ≤ length (key s t)

-- A statement stands from `at` up to `next`.
pub record StatementFrom (s : List ℕ) (at : ℕ) (t : Statement) (next : ℕ) : Type 0 where
  pub starts : t.first ≡ at
  pub is : IsStatement s t
  pub ends : next ≡ suc t.end

-- "then white": only whitespace from an offset to the end.
abbrev pub OnlyWhitespace : List ℕ → ℕ → Type 0
OnlyWhitespace s at = (k : ℕ) → at ≤ k → k < length s → whitespace (byte s k) ≡ true

-- "1 to 64 characters remain", "at most 2,048 bytes remain", quotes included.
pub record Short (s : List ℕ) (t : Statement) : Type 0 where
  pub key_short : length (key s t) ≤ 64
  pub offset : ℕ
  pub trimmed : List ℕ
  pub trim : Trimmed (raw_value s t) offset trimmed
  pub value_short : length trimmed ≤ 2048

-- No list of bytes stands twice in a list.
abbrev pub Distinct : List (List ℕ) → Type 0
Distinct [] = Unit {0}
Distinct (k ∷ ks) = (Memᴰ k ks → ⊥) × Distinct ks

-- A parse of a header (01: a reading): "a list of statements, each given by the places of its first byte, its `=` and its
-- `;`, that keeps the rules for a body: end to end from the body's first byte, then only white." "A folded key stands
-- once in a header."
pub record Parse (s : List ℕ) (h : Header) (ts : List Statement) : Type 0 where
  pub shape : Chain (StatementFrom (body_of s h)) (OnlyWhitespace (body_of s h)) (suc h.left) ts
  pub short : (t : Statement) → Memᴰ t ts → Short (body_of s h) t
  pub distinct : Distinct (map (key (body_of s h)) ts)

-- ---- What the statements say

-- A statement says its key, stripped and folded, and its value, trimmed and unquoted, with the span where that stands in the file.
pub record Says (s : List ℕ) (t : Statement) (e : Entry) : Type 0 where
  pub key_is : e.key ≡ key s t
  pub offset : ℕ
  pub value_is : IsValue (raw_value s t) offset e.value
  pub span_is : e.span ≡ record { offset = suc t.equals + offset; length = length e.value }

-- The statements of a header say the entries, in order.
pub data SayAll (s : List ℕ) : List Statement → List Entry → Type 0 where
  nothing : SayAll s [] []
  more : {t : Statement} {ts : List Statement} {e : Entry} {es : List Entry} → Says s t e → SayAll s ts es → SayAll s (t ∷ ts) (e ∷ es)
