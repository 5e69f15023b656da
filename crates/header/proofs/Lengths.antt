-- The length of a statement's value, by the part that is lent of it.
use mathlib.Core.Path.{◌≡◌, ap, ◌∙◌}
use mathlib.Core.List.{List}
use Prim.Native.Nat.{ℕ, ◌+◌, ◌-◌}
use native.Mathlib.Numerals.{add-one}
use lib.Dec.{leb}
use lib.ListN.{take, drop}
use Rattle.scan.specs.Byte.{between}
use Rattle.scan.proofs.Parts.{lent_between}
use Rattle.text.specs.Value.{trimmed}
use Rattle.header.specs.Entries.{trimmed_length}
use Rattle.header.specs.declared.Statement.{Statement}

module _ (s : List ℕ) (t : Statement) where
  abbrev lent_value : List ℕ
  lent_value = take (t.end - (t.equals + 1)) (drop (t.equals + 1) s)

  pub value_measured : leb (trimmed lent_value).length 2048 ≡ leb (trimmed_length s t) 2048
  unfolding trimmed_length
  value_measured =
      ap (λ (l : List ℕ). leb (trimmed l).length 2048)
      (lent_between s (t.equals + 1) t.end ∙ ap (λ (k : ℕ). between s k t.end) (add-one t.equals))
