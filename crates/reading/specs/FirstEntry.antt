-- The first of a header's entries, as code takes it apart.
use Rattle.std.specs.Prelude.{◌≡◌, List, ◌∷◌, ℕ}
use Rattle.text.specs.Key.{key_of}
use Rattle.header.specs.Entry.{Entry}
use Rattle.reading.specs.Entries.{entries_from}

-- The entries from an offset on start with one whose key, with its whitespace, and value are these, and go on from another offset.
pub record IsFirstEntry (s : List ℕ) (from : ℕ) (k v : List ℕ) (next : ℕ) : Type 0 where
  pub entry : Entry
  pub entries : entries_from s from ≡ entry ∷ entries_from s next
  pub key : key_of k ≡ entry.key
  pub value : v ≡ entry.value
