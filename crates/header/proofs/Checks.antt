-- The checks of a header's statements, without the statements, are those of `statements_of`.
use Rattle.std.specs.Prelude.{Ok, Err}
use Rattle.scan.specs.Outcome.{Outcome}
use mathlib.Core.Path.{◌≡◌}
use mathlib.Core.List.{List, map}
use Prim.Native.Nat.{ℕ, suc}
use Rattle.scan.proofs.Cases.{by_test, by_option}
use Rattle.text.specs.Text.{every}
use Rattle.header.specs.Checks.{statements_checked}
use Rattle.header.specs.Entry.{body_of, key}
use Rattle.header.specs.Statements.{statements_from, leading_statements, is_short, are_distinct, statements_of}
use Rattle.header.specs.declared.Header.{Header}
use Rattle.header.specs.declared.Statement.{Statement}
use Rattle.header.proofs.Leading.{leading_is}

-- The checks are those of a header's statements.
abbrev pub Checks : List ℕ → ℕ → Header → Outcome (Unit {0}) → Type 0
Checks s start h (Ok u) =
    (ts : List Statement) × (statements_of s start h ≡ Ok ts) × (leading_statements (body_of s h) (suc h.left) ≡ ts)
Checks s start h (Err e) = statements_of s start h ≡ Err e

pub checked_says : (s : List ℕ) (start : ℕ) (h : Header) → Checks s start h (statements_checked (body_of s h) (suc h.left) start)
unfolding statements_checked statements_of
checked_says s start h =
    let body = body_of s h in
    let from = suc h.left in
    by_option (statements_from body from)
    (λ n. rw n (rw n))
    (λ ts t. by_test (every (is_short body) ts)
    (λ l. by_test (are_distinct (map (key body) ts))
    (λ d. rw (t, l, d) (ts, rw (t, l, d), leading_is body from ts t))
    (λ d. rw (t, l, d) (rw (t, l, d))))
    (λ l. rw (t, l) (rw (t, l))))
