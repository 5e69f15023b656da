-- What the values of the keys for blocks mean, as functions of a value's bytes.
use Rattle.std.specs.Prelude.{Bool, cond, not, ◌&&◌, List, [], ◌∷◌, ℕ, ◌-◌, ◌+◌, eqb, leb, ℤ, pos, negsuc, length, take, drop, Option, None, Some}
use Rattle.scan.specs.Byte.{byte, ascii, same}
use Rattle.scan.specs.Search.{first_from, is}
use Rattle.text.specs.Number.{digit, whole_number}
use Rattle.text.specs.Text.{every}
use Rattle.blocks.specs.declared.Identity.{Identity}

-- A whole number that is at least `least`.
abbrev pub at_least : ℕ → Option ℤ → Option ℕ
at_least least None = None
at_least least (Some (pos n)) = cond (leb least n) (Some n) None
at_least least (Some (negsuc n)) = None

-- The number of a key that may be absent.
unfoldable pub number_or : ℕ → ℕ → Option (List ℕ) → Option ℕ
number_or default least None = Some default
number_or default least (Some v) = at_least least (whole_number v)

-- The last three bytes are a point and two digits, those before them digits that are not all `0`.
unfoldable pub is_version : List ℕ → Bool
is_version v =
    let n = length v - 3 in
    every digit (take n v) && not (every (is 48) (take n v))
    && eqb (byte v n) 46 && digit (byte v (n + 1)) && digit (byte v (n + 2))

-- How many data blocks EDF_DataBlocks asks for.
unfoldable pub asked_for : List ℕ → Option ℕ
asked_for v = cond (same v (ascii "Undetermined")) (Some 1) (at_least 1 (whole_number v))

-- What follows a prefix, where it stands in front.
unfoldable pub after_prefix : List ℕ → List ℕ → Option (List ℕ)
after_prefix p v = cond (same (take (length p) v) p) (Some (drop (length p) v)) None

-- What follows the instance: nothing, or a point and the memory.
unfoldable pub memory_of : List ℕ → Option ℕ
memory_of [] = Some 1
memory_of (b ∷ bs) = cond (eqb b 46) (at_least 2 (whole_number bs)) None

abbrev pub identity_by : Option ℤ → ℕ → Option ℕ → Option Identity
identity_by None instance memory = None
identity_by (Some sequence) instance None = None
identity_by (Some sequence) instance (Some memory) =
    Some (record { sequence = sequence; instance = instance; memory = pos memory })

-- By what follows `Psd`, and what follows `Error`.
abbrev pub instance_by : Option ℤ → Option (List ℕ) → Option (List ℕ) → Option Identity
instance_by sequence (Some rest) e = identity_by sequence 1 (memory_of rest)
instance_by sequence None (Some rest) = identity_by sequence 2 (memory_of rest)
instance_by sequence None None = None

-- By what follows `.Image.`.
abbrev pub image_by : Option ℤ → Option (List ℕ) → Option Identity
image_by sequence None = None
image_by sequence (Some v) = instance_by sequence (after_prefix (ascii "Psd") v) (after_prefix (ascii "Error") v)

-- By the offset of the first point: the sequence stands before it.
abbrev pub point_by : List ℕ → Option ℕ → Option Identity
point_by v None = None
point_by v (Some i) = image_by (whole_number (take i v)) (after_prefix (ascii ".Image.") (drop i v))

unfoldable pub identity_of : List ℕ → Option Identity
identity_of v = point_by v ((first_from (is 46) v 0))
