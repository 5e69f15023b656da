-- The header at an offset, as a function, with errors 3, 4 and 5.
use Rattle.std.specs.Prelude.{Bool, cond, not, ◌||◌, List, ℕ, suc, ◌+◌, ◌-◌, eqb, ltb, take, Ok, Option, Some, None}
use Rattle.scan.specs.Outcome.{Outcome, require, present, ◌>>=◌, ◌>>◌}
use Rattle.scan.specs.Byte.{byte}
use Rattle.scan.specs.Search.{first_from}
use Rattle.header.specs.Limits.{header_limit}
use Rattle.header.specs.declared.Header.{Header}

-- Where the `{` of a start pattern at `start` is.
unfoldable pub opening_at : List ℕ → ℕ → Option ℕ
opening_at s start =
    cond (eqb (byte s start) 123) (Some start)
    (cond (eqb (byte s start) 10) (cond (eqb (byte s (start + 1)) 123) (Some (start + 1)) None)
    (cond (eqb (byte s start) 13)
    (cond (eqb (byte s (start + 1)) 10) (cond (eqb (byte s (start + 2)) 123) (Some (start + 2)) None) None)
    None))

-- Where the end pattern ends whose `}` is at `right`.
unfoldable pub closing_at : List ℕ → ℕ → Option ℕ
closing_at s right =
    cond (eqb (byte s (right + 1)) 10) (Some (right + 2))
    (cond (eqb (byte s (right + 1)) 13) (cond (eqb (byte s (right + 2)) 10) (Some (right + 3)) None) None)

-- "byte 0, above 127, `{` or `}`": what can't stand in a body.
unfoldable pub ends_body : ℕ → Bool
ends_body b = eqb b 0 || (ltb 127 b || (eqb b 123 || eqb b 125))

-- And what can.
abbrev pub stays_in_body : ℕ → Bool
stays_in_body b = not (ends_body b)

-- 3: "no start pattern here". 4: the first byte after the opening that can't stand in a body "is not `}`"; its position is
-- that byte. 5: "there is none, or it does not complete an end pattern".
unfoldable pub frame_at : List ℕ → ℕ → Outcome Header
frame_at s start = do
  left ← present ((opening_at s start)) 3 start
  right ← present ((first_from ends_body s (suc left))) 5 start
  require (eqb (byte s right) 125) 4 right
  next ← present ((closing_at s right)) 5 start
  Ok (record { left = left; right = right; length = next - start })

-- "within the block's first 65,536 bytes"
unfoldable pub header_at : List ℕ → ℕ → Outcome Header
header_at s start = frame_at (take (start + header_limit) s) start
