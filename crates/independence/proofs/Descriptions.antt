-- A block that two files share has the same real numbers, and the same description with its origins.
use mathlib.Core.Path.{◌≡◌}
use mathlib.Core.List.{List}
use Prim.Native.Nat.{ℕ}
use lib.Dec.{eqb}
use Rattle.scan.specs.Outcome.{require, ◌>>◌}
use Rattle.blocks.specs.declared.Row.{Row}
use Rattle.locality.specs.Moved.{moved_row}
use Rattle.locality.proofs.Outcomes.{bind_map}
use Rattle.keyword.specs.Keyword.{View, view_of}
use Rattle.keyword.specs.Shared.{SharedBlock}
use Rattle.keyword.proofs.Shared.{moved_view, view_moved}
use Rattle.keyword.proofs.SharedValues.{value_moved, origin_moved, value_shared}
use Rattle.origins.specs.Fields.{by_name}
use Rattle.description.specs.Describe.{described, description_in, description_of}
use Rattle.quantities.specs.Real.{real_in}
use Rattle.quantities.proofs.ReadLaws.{real_by}

-- A description sees values and origins, and no spans.
pub description_moved : (n : ℕ) (v : View) → description_in (moved_view n v) ≡ description_in v
unfolding description_in
description_moved n v = λ i. require (eqb v.row.kind 1) 16 0
    >> described (λ name. value_moved n v name i) (by_name (λ name. origin_moved n v name i)) v.row.size

module _ (n : ℕ) {s t : List ℕ} {k j : ℕ} {row : Row} (b : SharedBlock s t k j row (moved_row n row)) where
  pub description_shared : description_of t j ≡ description_of s k
  unfolding description_of
  description_shared = rw (view_moved n b) (bind_map (moved_view n) description_in description_in (description_moved n) (view_of s k))

  pub real_shared : (name : List ℕ) → real_in t j name ≡ real_in s k name
  real_shared name = rw (real_by t j name, real_by s k name, value_shared n b name)
