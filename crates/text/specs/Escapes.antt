-- Escapes: a backslash and a character that stand for a character (000, table 3).
use Rattle.std.specs.Prelude.{cond, List, [], ◌∷◌, ℕ, eqb, Option, None, Some, unwrap_or}

-- A byte, and the byte that a table gives it.
pub record Pair : Type 0 where
  pub from : ℕ
  pub to : ℕ

unfoldable pub lookup_byte : ℕ → List Pair → Option ℕ
lookup_byte b [] = None
lookup_byte b (p ∷ ps) = let r = lookup_byte b ps in cond (eqb b p.from) (Some p.to) r

-- "`\l` and `\n` give LF, `\r` CR, `\s` space, `\t` tab, `\v` VT, `\f` FF, `\(` `{`, `\)` `}`, `\:` `;`"
unfoldable pub meanings : List Pair
meanings =
    record { from = 108; to = 10 } ∷ record { from = 110; to = 10 } ∷ record { from = 114; to = 13 }
    ∷ record { from = 115; to = 32 } ∷ record { from = 116; to = 9 } ∷ record { from = 118; to = 11 }
    ∷ record { from = 102; to = 12 } ∷ record { from = 40; to = 123 } ∷ record { from = 41; to = 125 }
    ∷ record { from = 58; to = 59 } ∷ []

-- What a backslash before a byte gives: "a backslash before another character that character".
unfoldable pub meaning : ℕ → ℕ
unfolding meanings lookup_byte
meaning b = unwrap_or (lookup_byte b meanings) b

-- "with `\` as `\\`, LF `\l`, CR `\r`, `{` `\(`, `}` `\)`, `;` `\:`": the byte to write after the backslash.
unfoldable pub letters : List Pair
letters =
    record { from = 92; to = 92 } ∷ record { from = 10; to = 108 } ∷ record { from = 13; to = 114 }
    ∷ record { from = 123; to = 40 } ∷ record { from = 125; to = 41 } ∷ record { from = 59; to = 58 } ∷ []

-- The letter with which a byte is escaped, if it is.
unfoldable pub letter : ℕ → Option ℕ
unfolding letters lookup_byte
letter b = lookup_byte b letters
