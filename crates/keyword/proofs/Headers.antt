-- What is read of a header is what it says.
use Rattle.std.specs.Prelude.{Ok}
use mathlib.Core.Path.{◌≡◌}
use mathlib.Core.List.{List}
use Prim.Native.Nat.{ℕ}
use Rattle.header.specs.Entry.{Entry}
use Rattle.header.specs.declared.Header.{Header}
use Rattle.header.specs.declared.Statement.{Statement}
use Rattle.header.proofs.FrameLaws.{header_complete}
use Rattle.header.proofs.StatementLaws.{statements_complete}
use Rattle.blocks.specs.Grammar.{HasHeader}
use Rattle.blocks.proofs.Said.{said_once}
use Rattle.keyword.specs.Keyword.{entries_at}

pub entries_read : {s : List ℕ} {start : ℕ} {h : Header} {ts : List Statement} {es : List Entry} → HasHeader s start h ts es
    → entries_at s start ≡ Ok es
unfolding entries_at
entries_read {s} {start} {h} x = rw (header_complete x.header, statements_complete s start h x.parse, said_once x)
