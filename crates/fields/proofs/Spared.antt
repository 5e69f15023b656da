-- Errors that a definition does not give: 17, "unknown word", is given by no check after field 3.
use Rattle.std.specs.Prelude.{Option, None, Some, Ok, Err}
use Rattle.scan.specs.Outcome.{Outcome, error_at, refused, require, present, ◌>>=◌, ◌>>◌}
use mathlib.Core.Path.{◌≡◌}
use mathlib.Core.Bool.{Bool, true, false, not}
use mathlib.Core.List.{List, [], ◌∷◌, ◌++◌}
use mathlib.Core.Logic.{◌≢◌}
use Prim.Native.Nat.{ℕ, suc}
use native.Mathlib.Omega.{arith}
use lib.Dec.{eqb}
use lib.IntN.{ℤ}
use lib.ListN.{length}
use Rattle.scan.specs.Byte.{ascii}
use Rattle.scan.proofs.Cases.{ok-failed}
use Rattle.text.specs.Number.{whole_number}
use Rattle.description.specs.Describe.{Values, dim_values, dims_of}
use Rattle.description.specs.Fields.{in_range, range_field, whole_field, found_first, dims_from}
use Rattle.description.specs.Limits.{most_dims, dim_limit}

-- No error 17.
abbrev pub Spares17 : {A : Type 0} → Outcome A → Type 0
Spares17 (Ok x) = Unit {0}
Spares17 (Err e) = e.code ≢ 17

pub spared : {A : Type 0} {k : ℕ} (o : Outcome A) → Spares17 o → o ≡ refused 17 k → ⊥
spared (Ok x) h e = ok-failed e
spared {A} {k} (Err x) h e = let q : x ≡ error_at 17 k = cc in h (rw q)

present_spares : {A : Type 0} (o : Option A) (code position : ℕ) → code ≢ 17 → Spares17 (present o code position)
present_spares (Some x) code position apart = tt
present_spares None code position apart = apart

pub require_spares : {B : Type 0} (b : Bool) (code position : ℕ) (rest : Outcome B) → code ≢ 17 → Spares17 rest
    → Spares17 (require b code position >> rest)
require_spares true code position rest apart h = h
require_spares false code position rest apart h = apart

pub step_spares : {A B : Type 0} (o : Outcome A) (go : A → Outcome B) → Spares17 o → ((x : A) → Spares17 (go x)) → Spares17 (o >>= go)
step_spares (Ok x) go h rest = rest x
step_spares (Err e) go h rest = h

-- ---- The fields after field 3

module _ (field : ℕ) where
  pub range_spares : (most default : ℕ) (o : Option (List ℕ)) → Spares17 (range_field field most default o)
  unfolding range_field
  range_spares most default None = tt
  range_spares most default (Some v) = present_spares (in_range 1 most (whole_number v)) 18 field (λ e. omega arith)

  pub whole_spares : (default : ℤ) (o : Option (List ℕ)) → Spares17 (whole_field field default o)
  unfolding whole_field
  whole_spares default None = tt
  whole_spares default (Some v) = present_spares (whole_number v) 18 field (λ e. omega arith)

from_spares : (vs : List (List ℕ)) → Spares17 (dims_from vs)
unfolding dims_from
from_spares [] = tt
from_spares (v ∷ vs) =
    let read = in_range 1 dim_limit (whole_number v) in
    step_spares (present read 18 4) _ (present_spares read 18 4 (λ e. omega arith))
    (λ d. step_spares (dims_from vs) _ (from_spares vs) (λ ds. tt))

pub dims_spare : (look : Values) → Spares17 (dims_of look)
unfolding dims_of
dims_spare look =
    step_spares (dims_from (found_first (dim_values look))) _ (from_spares (found_first (dim_values look)))
    (λ ds.
    let all = length (found_first (dim_values look ++ (look (ascii "Dim_4") ∷ []))) in
    require_spares (not (eqb all (suc most_dims))) 19 0 _ (λ e. omega arith) tt)
