-- A field of an array, by whether its value is there.
use Rattle.std.specs.Prelude.{Option, None, Some, Ok, ok_or}
use Rattle.scan.specs.Outcome.{Outcome, error_at, present}
use mathlib.Core.Path.{◌≡◌, ap, ◌∙◌}
use mathlib.Core.List.{List}
use Prim.Native.Nat.{ℕ}
use lib.IntN.{ℤ}
use Rattle.text.specs.Number.{whole_number}
use Rattle.keyword.proofs.Reading.{ok_or-present}
use Rattle.raster.specs.Types.{code_of}
use Rattle.description.specs.Fields.{in_range, word_field, range_field, whole_field}

-- ---- Fields

module _ {o : Option (List ℕ)} (field : ℕ) where
  module _ (e : o ≡ None) where
    pub word_absent : (words : List (List ℕ)) (default : ℕ) → Ok default ≡ word_field field words default o
    unfolding word_field
    word_absent words default = rw e

    pub range_absent : (most default : ℕ) → Ok default ≡ range_field field most default o
    unfolding range_field
    range_absent most default = rw e

    pub whole_absent : (default : ℤ) → Ok default ≡ whole_field field default o
    unfolding whole_field
    whole_absent default = rw e

  -- The value is w, and the code holds it as v.
  module _ {w : List ℕ} (e : o ≡ Some w) (v : List ℕ) (is : v ≡ w) where
    pub word_there : (words : List (List ℕ)) (default : ℕ) {code : Option ℕ} {x : Outcome ℕ}
        → code ≡ code_of words v → x ≡ ok_or code (error_at 17 field) → x ≡ word_field field words default o
    unfolding word_field
    word_there words default c q =
        rw e (q ∙ ok_or-present _ 17 field ∙ ap (λ (r : Option ℕ). present r 17 field) (c ∙ ap (code_of words) is))

    pub range_there : (most default : ℕ) {x : Outcome ℕ} → x ≡ present (in_range 1 most (whole_number v)) 18 field
        → x ≡ range_field field most default o
    unfolding range_field
    range_there most default q = rw e (q ∙ ap (λ (l : List ℕ). present (in_range 1 most (whole_number l)) 18 field) is)

    pub whole_there : (default : ℤ) {x : Outcome ℤ} → x ≡ present (whole_number v) 18 field → x ≡ whole_field field default o
    unfolding whole_field
    whole_there default q = rw e (q ∙ ap (λ (l : List ℕ). present (whole_number l) 18 field) is)
