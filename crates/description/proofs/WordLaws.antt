-- "An unknown type, order or compression taking the default" is the slip that this library must not make.
use Rattle.std.specs.Prelude.{None, Some, Ok}
use Rattle.scan.specs.Outcome.{refused}
use mathlib.Core.Path.{◌≡◌, refl}
use mathlib.Core.List.{List}
use Prim.Native.Nat.{ℕ}
use Rattle.raster.specs.Types.{code_of}
use Rattle.description.specs.Fields.{word_field}

module _ (field : ℕ) (words : List (List ℕ)) (default : ℕ) where
  -- The default is for an absent field,
  pub absent_word : word_field field words default None ≡ Ok default
  unfolding word_field
  absent_word = refl

  -- and a word that is none of those allowed is error 17 at the field.
  pub unknown_word : (v : List ℕ) → code_of words v ≡ None → word_field field words default (Some v) ≡ refused 17 field
  unfolding word_field
  unknown_word v e = rw e

  -- A word that is one of them has its code.
  pub known_word : (v : List ℕ) (code : ℕ) → code_of words v ≡ Some code → word_field field words default (Some v) ≡ Ok code
  unfolding word_field
  known_word v code e = rw e
