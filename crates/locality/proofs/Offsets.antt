-- What stands in a file from an offset on is what the rest of the file from there is judged to be, with its offsets moved; errors too.
use mathlib.Core.Path.{◌≡◌}
use mathlib.Core.Bool.{Bool}
use mathlib.Core.List.{List, ◌++◌, map}
use Prim.Native.Nat.{ℕ, ◌+◌, ◌≤◌}
use native.Mathlib.Omega.{arith}
use lib.ListN.{length, take, drop, take-append-drop}
use lib.Seq.{length-take-le}
use Rattle.header.specs.Entries.{entries}
use Rattle.header.specs.Entry.{body_of}
use Rattle.header.specs.Frame.{header_at}
use Rattle.header.specs.Statements.{statements_of}
use Rattle.header.specs.declared.Header.{Header}
use Rattle.header.specs.declared.Statement.{Statement}
use Rattle.blocks.specs.Judging.{block_at}
use Rattle.blocks.specs.declared.FileRules.{FileRules}
use Rattle.locality.specs.Moved.{moved_outcome, moved_header, moved_statement, moved_entry, moved_accepted}
use Rattle.locality.proofs.BlockShift.{block_shift}
use Rattle.locality.proofs.FrameShift.{header_shift}
use Rattle.locality.proofs.HeaderUp.{entries_up}
use Rattle.locality.proofs.StatementShift.{statements_of_shift}

module _ (s : List ℕ) (a : ℕ) (inside : a ≤ length s) where
  whole : take a s ++ drop a s ≡ s
  whole = take-append-drop a s

  front : length (take a s) ≡ a
  front = length-take-le a s inside

  start : a + 0 ≡ a
  start = omega arith

  pub header_from : header_at s a ≡ moved_outcome a (moved_header a) (header_at (drop a s) 0)
  header_from = rw (front, whole, start) at (header_shift (take a s) (drop a s) 0)

  pub statements_from_lem : (h : Header) → statements_of s a (moved_header a h) ≡ moved_outcome a (map (moved_statement a)) (statements_of (drop a s) 0 h)
  statements_from_lem h = rw (front, whole, start) at (statements_of_shift (take a s) (drop a s) 0 h)

  pub entries_from_lem : (h : Header) (ts : List Statement)
      → entries (body_of s (moved_header a h)) (map (moved_statement a) ts) ≡ map (moved_entry a) (entries (body_of (drop a s) h) ts)
  entries_from_lem h ts = rw (front, whole) at (entries_up (take a s) (drop a s) h ts)

  pub block_from : (given : FileRules) (b : Bool) → block_at s given b a ≡ moved_outcome a (moved_accepted a) (block_at (drop a s) given b 0)
  block_from given b = rw (front, whole, start) at (block_shift (take a s) (drop a s) given b 0)
