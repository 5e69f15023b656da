-- The statements of a header, as a function, with errors 6, 7 and 8.
use Rattle.std.specs.Prelude.{Bool, true, false, cond, not, ◌&&◌, ◌||◌, List, [], ◌∷◌, map, ℕ, zero, suc, ltb, leb, length, Option, None, Some, Result, Ok, Err, option_map}
use Rattle.scan.specs.Outcome.{Outcome, require, present, ◌>>=◌, ◌>>◌}
use Rattle.scan.specs.Byte.{same}
use Rattle.scan.specs.Search.{first_from, is}
use Rattle.text.specs.Text.{every}
use Rattle.text.specs.Whitespace.{visible}
use Rattle.header.specs.Entries.{trimmed_length}
use Rattle.header.specs.Entry.{body_of, key}
use Rattle.header.specs.declared.Header.{Header}
use Rattle.header.specs.declared.Malformed.{Malformed}
use Rattle.header.specs.declared.Statement.{Statement}

-- ---- 6: "non-white after the last `;`, no `=`, or an empty key"

-- What stands where a statement may start: a statement, only whitespace, or neither.
abbrev pub Next : Type 0
Next = Result (Option Statement) Malformed

abbrev pub malformed : Malformed
malformed = record {}

-- By the first offsets from `at` on of a visible byte, of `;` and of `=`.
abbrev pub next_by : ℕ → Option ℕ → Option ℕ → Option ℕ → Next
next_by at None f e = Ok None
next_by at (Some d) None e = Err malformed
next_by at (Some d) (Some f) None = Err malformed
next_by at (Some d) (Some f) (Some e) =
    cond (ltb d e && ltb e f) (Ok (Some (record { first = at; equals = e; end = f }))) (Err malformed)

unfoldable pub statement_at : List ℕ → ℕ → Next
statement_at s at = next_by at (first_from visible s at) (first_from (is 59) s at) (first_from (is 61) s at)

abbrev pub continued : Next → (ℕ → Option (List Statement)) → Option (List Statement)
continued (Ok (Some t)) go = option_map (λ (ts : List Statement). t ∷ ts) (go (suc t.end))
continued (Ok None) go = Some []
continued (Err m) go = None

-- At most n statements from `at` on.
unfoldable pub statements_within : ℕ → List ℕ → ℕ → Option (List Statement)
statements_within zero s at = None
statements_within (suc n) s at = continued (statement_at s at) (λ next. statements_within n s next)

-- All of them: no list of bytes holds more statements than bytes.
unfoldable pub statements_from : List ℕ → ℕ → Option (List Statement)
statements_from s at = statements_within (suc (length s)) s at

-- The statements end to end from `at`, up to the first offset where none starts: all of them where the body is well formed.
abbrev pub followed : Next → (ℕ → List Statement) → List Statement
followed (Ok (Some t)) go = t ∷ go (suc t.end)
followed (Ok None) go = []
followed (Err m) go = []

unfoldable pub leading_within : ℕ → List ℕ → ℕ → List Statement
leading_within zero s at = []
leading_within (suc n) s at = followed (statement_at s at) (λ next. leading_within n s next)

unfoldable pub leading_statements : List ℕ → ℕ → List Statement
leading_statements s at = leading_within (suc (length s)) s at

-- ---- 7: "key or value too long"

unfoldable pub is_short : List ℕ → Statement → Bool
is_short s t = leb (length (key s t)) 64 && leb (trimmed_length s t) 2048

-- ---- 8: "key twice"

unfoldable pub among : List ℕ → List (List ℕ) → Bool
among k [] = false
among k (j ∷ js) = same k j || among k js

unfoldable pub are_distinct : List (List ℕ) → Bool
are_distinct [] = true
are_distinct (k ∷ ks) = not (among k ks) && are_distinct ks

-- The statements of the header at `start`: "each check for the whole header before the next".
unfoldable pub statements_of : List ℕ → ℕ → Header → Outcome (List Statement)
statements_of s start h = do
  ts ← present (statements_from (body_of s h) (suc h.left)) 6 start
  require (every (is_short (body_of s h)) ts) 7 start
  require (are_distinct (map (key (body_of s h)) ts)) 8 start
  Ok ts
