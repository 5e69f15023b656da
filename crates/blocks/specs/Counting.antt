-- Which keys of a header count, as functions of what it says.
use Rattle.std.specs.Prelude.{Bool, cond, List, [], ◌∷◌, ℕ, eqb, get_or, take, Option}
use Rattle.scan.specs.Byte.{ascii, same}
use Rattle.header.specs.Entries.{value_in}
use Rattle.header.specs.Entry.{Entry}
use Rattle.blocks.specs.Keys.{SizeKey, BinarySizeKey}

-- An EDF_ key: it starts with `edf_`.
unfoldable pub is_edf_key : List ℕ → Bool
is_edf_key k = same (take 4 k) (ascii "edf_")

-- What stands past the last entry: no key is empty.
abbrev pub no_entry : Entry
no_entry = record { key = []; value = []; span = record { offset = 0; length = 0 } }

-- The first entry of a header, and its second.
abbrev pub first : List Entry → Entry
first es = get_or es 0 no_entry

abbrev pub second : List Entry → Entry
second es = get_or es 1 no_entry

-- "In kind 2 an EDF_ key counts only if all statements before it in its header are EDF_ keys": the entries that count.
unfoldable pub counting : List Entry → List Entry
counting [] = []
counting (e ∷ es) = let r = counting es in cond (is_edf_key e.key) (e ∷ r) []

-- The entries that count in a file of a kind: "In kind 1 all EDF_ keys are ignored".
unfoldable pub counting_in : ℕ → List Entry → List Entry
counting_in kind es = cond (eqb kind 1) [] (counting es)

-- The value that gives the data's size: "In kind 1 .. the extent's length is Size .. In kind 2 the length is EDF_BinarySize ..
-- and Size is ignored."
unfoldable pub size_value : ℕ → List Entry → Option (List ℕ)
size_value kind es = cond (eqb kind 1) (value_in SizeKey es) (value_in BinarySizeKey (counting es))
