-- What the statements of a body say, from its first byte on.
use Rattle.std.specs.Prelude.{List, ℕ}
use Rattle.header.specs.Entries.{entries}
use Rattle.header.specs.Entry.{Entry}
use Rattle.header.specs.Statements.{leading_statements}

abbrev pub entries_from : List ℕ → ℕ → List Entry
entries_from s from = entries s (leading_statements s from)
