-- A block in a file behind another: the same row, or the same error, with its offsets moved by the length of the first.
use mathlib.Core.Path.{◌≡◌}
use mathlib.Core.Bool.{Bool}
use mathlib.Core.List.{List, ◌++◌}
use Prim.Native.Nat.{ℕ, ◌+◌}
use lib.ListN.{length, length-append}
use Rattle.scan.proofs.Cases.{by_option, by_outcome}
use Rattle.header.specs.Entries.{entries}
use Rattle.header.specs.Entry.{body_of}
use Rattle.header.specs.Frame.{header_at}
use Rattle.header.specs.Statements.{statements_of}
use Rattle.blocks.specs.Judging.{rules_for, block_at}
use Rattle.blocks.specs.declared.FileRules.{FileRules}
use Rattle.locality.specs.Moved.{moved_outcome, moved_accepted}
use Rattle.locality.proofs.FrameShift.{header_shift}
use Rattle.locality.proofs.HeaderUp.{entries_up}
use Rattle.locality.proofs.KeyShift.{rules_for_moved, judged_moved}
use Rattle.locality.proofs.StatementShift.{statements_of_shift}

-- Errors 3 to 12 included.
pub block_shift : (p s : List ℕ) (given : FileRules) (b : Bool) (at : ℕ)
    → block_at (p ++ s) given b (length p + at) ≡ moved_outcome (length p) (moved_accepted (length p)) (block_at s given b at)
unfolding block_at
block_shift p s given b at =
    rw (header_shift p s at)
    (by_outcome (header_at s at)
    (λ h e. rw (e, statements_of_shift p s at h)
    (by_outcome (statements_of s at h)
    (λ ts f. rw (f, entries_up p s h ts, rules_for_moved (length p) given b (entries (body_of s h) ts), length-append p s)
    (by_option (rules_for given b (entries (body_of s h) ts))
    (λ g. rw g)
    (λ r g. rw g (judged_moved (length p) r b (length s) at h.length (entries (body_of s h) ts)))))
    (λ x f. rw f)))
    (λ x e. rw e))
