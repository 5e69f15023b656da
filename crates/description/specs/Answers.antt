-- The numbers and values of this layer's answers.
use Rattle.std.specs.Prelude.{List, [], ◌∷◌, map, ℕ, Ok, Err}
use Rattle.std.specs.Borrow.{Bor}
use Rattle.scan.specs.Outcome.{Outcome}
use Rattle.description.specs.declared.dimensions.Dims.{Dims}
use Rattle.description.specs.declared.dimensions.Dims.TheVariants as dims

-- The bytes of some words.
abbrev pub contents : List (Bor (List ℕ)) → List (List ℕ)
contents words = map (λ (w : Bor (List ℕ)). w.now) words

-- The Dims as a list: the first is that of index 1.
abbrev pub dim_list : Dims → List ℕ
dim_list (dims.One a) = a ∷ []
dim_list (dims.Two a b) = a ∷ b ∷ []
dim_list (dims.Three a b c) = a ∷ b ∷ c ∷ []

-- The Dims, or the error.
abbrev pub measured_outcome : Outcome Dims → Outcome (List ℕ)
measured_outcome (Ok d) = Ok (dim_list d)
measured_outcome (Err e) = Err e
