-- What follows from soundness and completeness: files that are refused, and the call with its limit.
use Rattle.std.specs.Prelude.{Ok, Err}
use mathlib.Core.Path.{◌≡◌, ◌∙◌}
use mathlib.Core.Logic.{◌↔◌}
use mathlib.Core.List.{List}
use Prim.Native.Nat.{ℕ, ◌≤◌}
use borrow.Author.Tests.{le-leb}
use lib.ListN.{length}
use Rattle.scan.specs.declared.Error.{Error}
use Rattle.scan.proofs.Cases.{by_outcome}
use Rattle.blocks.specs.Grammar.{Partition}
use Rattle.blocks.specs.Opening.{opened, opened_file}
use Rattle.blocks.specs.declared.Row.{Row}
use Rattle.blocks.proofs.Complete.{opened_complete}
use Rattle.blocks.proofs.Errors.{Bounded, error_bounded}
use Rattle.blocks.proofs.Sound.{opened-sound, error-sound}

module _ (s : List ℕ) where
  pub opened_error : ((rows : List Row) → Partition s rows → ⊥) → (e : Error) × (opened s ≡ Err e) × Bounded s e
  opened_error none =
      by_outcome (opened s) (λ rows e. absurd (none rows (opened-sound s e))) (λ x e. (x, e, error_bounded (error-sound s e)))

  -- Within the limit the call answers what opening does.
  pub within_limit : length s ≤ 1073741824 → opened_file s ≡ opened s
  unfolding opened_file
  within_limit l = rw (le-leb (length s) 1073741824 l)

  pub file_accepted : length s ≤ 1073741824 → {rows : List Row} → (opened_file s ≡ Ok rows) ↔ Partition s rows
  file_accepted l = (λ e. opened-sound s (rw (within_limit l) at e), λ c. within_limit l ∙ opened_complete s c)
