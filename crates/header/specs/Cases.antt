-- Errors 3 to 8 of 01's table: "given exactly when", as facts about offsets of the file's bytes. Nothing here says how a
-- header is read.
use Rattle.std.specs.Prelude.{◌≡◌, ◌≢◌, ◌⊎◌, true, ℕ, suc, ◌+◌, ◌≤◌, ◌<◌, length}
use mathlib.Core.List.{List, map, Memᴰ}
use Rattle.scan.specs.Byte.{byte}
use Rattle.scan.specs.Chain.{Chain}
use Rattle.scan.specs.Outcome.{error_at}
use Rattle.scan.specs.declared.Error.{Error}
use Rattle.text.specs.Whitespace.{whitespace}
use Rattle.header.specs.Entry.{body_of, key}
use Rattle.header.specs.Grammar.{StartPattern, EndPattern, StatementFrom, OnlyWhitespace, Short, Distinct}
use Rattle.header.specs.declared.Header.{Header}
use Rattle.header.specs.declared.Statement.{Statement}

-- ---- The frame

-- 3: "no start pattern here".
abbrev pub NoStart : List ℕ → ℕ → Type 0
NoStart s start = (left : ℕ) → StartPattern s start left → ⊥

-- "byte 0, above 127, `{` or `}`"
abbrev pub EndsBody : ℕ → Type 0
EndsBody b = (b ≡ 0) ⊎ ((127 < b) ⊎ ((b ≡ 123) ⊎ (b ≡ 125)))

-- c is "the first of" these "after the opening", whose `{` is at `left`, "within the block's first 65,536 bytes".
pub record BodyEnd (s : List ℕ) (start left c : ℕ) : Type 0 where
  pub after : left < c
  pub inside : c < length s
  pub within : c < start + 65536
  pub ends : EndsBody (byte s c)
  pub first : (k : ℕ) → left < k → k < c → EndsBody (byte s k) → ⊥

-- The end pattern "in that space" whose `}` is at c, up to, not including, `next`.
pub record Closes (s : List ℕ) (start c next : ℕ) : Type 0 where
  pub pattern : EndPattern s c next
  pub within : next ≤ start + 65536

-- 4, at position c: it "is not `}`".
pub record BadByte (s : List ℕ) (start c : ℕ) : Type 0 where
  pub left : ℕ
  pub opening : StartPattern s start left
  pub end : BodyEnd s start left c
  pub not_right : byte s c ≢ 125

-- 5: "there is none, or it does not complete an end pattern in that space".
pub data NoEnd (s : List ℕ) (start : ℕ) : Type 0 where
  unended : {left : ℕ} → StartPattern s start left → ((c : ℕ) → BodyEnd s start left c → ⊥) → NoEnd s start
  unclosed : {left c : ℕ} → StartPattern s start left → BodyEnd s start left c → byte s c ≡ 125
      → ((next : ℕ) → Closes s start c next → ⊥) → NoEnd s start

-- An error of the frame of the header at `start`, in its case.
pub data FrameError (s : List ℕ) (start : ℕ) : Error → Type 0 where
  no_start : NoStart s start → FrameError s start (error_at 3 start)
  bad-byte : {c : ℕ} → BadByte s start c → FrameError s start (error_at 4 c)
  no_end : NoEnd s start → FrameError s start (error_at 5 start)

-- ---- The statements

-- What is wrong at an offset of a body from which neither a statement stands nor only whitespace.
pub data Fault (s : List ℕ) (at : ℕ) : Type 0 where
  -- "non-white after the last `;`"
  tail : (OnlyWhitespace s at → ⊥) → ((k : ℕ) → at ≤ k → k < length s → byte s k ≢ 59) → Fault s at
  -- "no `=`" up to the next `;`, at f
  no-equals : {f : ℕ} → at ≤ f → byte s f ≡ 59 → ((k : ℕ) → at ≤ k → k < f → (byte s k ≢ 61) × (byte s k ≢ 59)) → Fault s at
  -- "an empty key": only whitespace before the `=`, at e
  empty_key : {e : ℕ} → at ≤ e → byte s e ≡ 61 → ((k : ℕ) → at ≤ k → k < e → whitespace (byte s k) ≡ true) → Fault s at

-- Statements stand end to end from `at`, and after them something is wrong.
pub record Broken (s : List ℕ) (at : ℕ) : Type 0 where
  pub statements : List Statement
  pub end : ℕ
  pub before : Chain (StatementFrom s) (λ k. k ≡ end) at statements
  pub fault : Fault s end

module _ (s : List ℕ) (h : Header) where
  -- Statements "end to end from the body's first byte, then only white."
  abbrev pub Statements : List Statement → Type 0
  Statements ts = Chain (StatementFrom (body_of s h)) (OnlyWhitespace (body_of s h)) (suc h.left) ts

  -- 6: "non-white after the last `;`, no `=`, or an empty key".
  abbrev pub BrokenBody : Type 0
  BrokenBody = Broken (body_of s h) (suc h.left)

  -- 7: "key or value too long".
  pub record TooLong : Type 0 where
    pub statements : List Statement
    pub shape : Statements statements
    pub statement : Statement
    pub member : Memᴰ statement statements
    pub long : Short (body_of s h) statement → ⊥

  -- 8: "key twice".
  pub record KeyTwice : Type 0 where
    pub statements : List Statement
    pub shape : Statements statements
    pub short : (t : Statement) → Memᴰ t statements → Short (body_of s h) t
    pub twice : Distinct (map (key (body_of s h)) statements) → ⊥

  -- An error of the statements of the header, which stands at `start`, in its case.
  pub data StatementsError (start : ℕ) : Error → Type 0 where
    malformed : BrokenBody → StatementsError start (error_at 6 start)
    too_long : TooLong → StatementsError start (error_at 7 start)
    key_twice : KeyTwice → StatementsError start (error_at 8 start)
