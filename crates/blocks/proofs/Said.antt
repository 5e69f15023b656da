-- What a header says.
use mathlib.Core.Path.{◌≡◌, sym, subst, ◌∙◌}
use mathlib.Core.List.{List}
use Prim.Native.Nat.{ℕ}
use Rattle.header.specs.Entries.{entries}
use Rattle.header.specs.Entry.{Entry, body_of}
use Rattle.header.specs.Grammar.{Distinct}
use Rattle.header.specs.declared.Header.{Header}
use Rattle.header.specs.declared.Statement.{Statement}
use Rattle.header.proofs.SayLaws.{entries_only, said_keys}
use Rattle.header.proofs.Unambiguous.{header_unique, parse_unique}
use Rattle.blocks.specs.Grammar.{HasHeader}
use Rattle.blocks.proofs.PlaceLaws.{DistinctKeys}

-- It says one thing,
pub said_once : {s : List ℕ} {start : ℕ} {h : Header} {ts : List Statement} {es : List Entry} → HasHeader s start h ts es
    → es ≡ entries (body_of s h) ts
said_once {s} {h = h} x = entries_only (body_of s h) x.says

-- the same wherever it is parsed,
pub said_same : {s : List ℕ} {start : ℕ} {h g : Header} {ts us : List Statement} {es ds : List Entry} → HasHeader s start h ts es
    → HasHeader s start g us ds → es ≡ ds
said_same x y =
    let p = header_unique x.header y.header in
    let q = parse_unique (rw p at x.parse) y.parse in
    said_once x ∙ rw (p, q) (sym (said_once y))

-- with distinct keys.
pub keys_distinct : {s : List ℕ} {start : ℕ} {h : Header} {ts : List Statement} {es : List Entry} → HasHeader s start h ts es → DistinctKeys es
keys_distinct {s} {h = h} {ts = ts} x =
    subst DistinctKeys (sym (said_once x)) (record { distinct = subst Distinct (sym (said_keys (body_of s h) ts)) x.parse.distinct })
