-- An identity as text, as the writer and the lister give it.
use Rattle.std.specs.Prelude.{Bool, false, cond, List, [], ◌∷◌, ◌++◌, ℕ, eqb, ℤ, pos, negsuc}
use Rattle.scan.specs.Byte.{ascii}
use Rattle.text.specs.Decimal.{decimal}

abbrev pub is_one : ℤ → Bool
is_one (pos n) = eqb n 1
is_one (negsuc n) = false

-- "instance `Psd` or `Error`", by its number in a row.
unfoldable pub instance_word : ℕ → List ℕ
instance_word instance = cond (eqb instance 1) (ascii "Psd") (ascii "Error")

-- "left out for 1"
unfoldable pub memory_text : ℤ → List ℕ
memory_text memory = cond (is_one memory) [] (46 ∷ decimal memory)

-- "`sequence.Image.instance` or with `.memory`", the numbers in shortest decimal form.
unfoldable pub identity_text : ℤ → ℕ → ℤ → List ℕ
identity_text sequence instance memory =
    decimal sequence ++ (ascii ".Image." ++ (instance_word instance ++ memory_text memory))
