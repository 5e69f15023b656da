-- Bytes put into a buffer at an offset.
use Rattle.std.specs.Prelude.{◌≡◌, List, ◌++◌, ℕ, ◌+◌, ◌≤◌, length, take, drop}
use Rattle.scan.specs.Buffer.{over}
use Rattle.append.specs.declared.appender.Appender.{Appender}

-- The buffer `d` with the bytes `w` from the offset `at` on, and all else as it was.
unfoldable pub over_at : ℕ → List ℕ → List ℕ → List ℕ
over_at at w d = take at d ++ over w (drop at d)

-- The bytes `w` were put at `at` into a buffer that had room for them, and `next` is the offset after them.
pub record Appended (w : List ℕ) (at : ℕ) (before after : List ℕ) (next : ℕ) : Type 0 where
  pub next_is : next ≡ at + length w
  pub room : next ≤ length before
  pub holds : after ≡ over_at at w before

-- There is room for so many bytes more.
abbrev pub HasRoom : ℕ → Appender → Type 0
HasRoom n out = out.at + n ≤ length out.bytes.now

-- The bytes `w`, at most so many, were appended.
pub record AppendedWithin (most : ℕ) (w : List ℕ) (before after : Appender) : Type 0 where
  pub appended : Appended w before.at before.bytes.now after.bytes.now after.at
  pub upper_bound : after.at ≤ before.at + most
  pub same_length : length after.bytes.now ≡ length before.bytes.now
  pub same_buffer : after.bytes.ghost_name ≡ before.bytes.ghost_name
