-- Which codes the errors of each call may have: 01's "Numbers of refusal", call by call.
use Rattle.std.specs.Prelude.{Bool, ◌&&◌, ◌||◌, ℕ, eqb, leb}

abbrev pub within : ℕ → ℕ → ℕ → Bool
within low high c = leb low c && leb c high

-- open: 1 to 15.
unfoldable pub open_codes : ℕ → Bool
open_codes c = within 1 15 c

-- find. "Calls on a block: an opening refusal first (but 2); then 16".
unfoldable pub find_codes : ℕ → Bool
find_codes c = eqb c 1 || within 3 16 c

-- whole_number: 18 besides.
unfoldable pub number_codes : ℕ → Bool
number_codes c = find_codes c || eqb c 18

-- real: 18 and 27 besides.
unfoldable pub real_codes : ℕ → Bool
real_codes c = find_codes c || (eqb c 18 || eqb c 27)

-- text: 25 and 22 besides.
unfoldable pub text_codes : ℕ → Bool
text_codes c = find_codes c || (eqb c 25 || eqb c 22)

-- describe. "Describing gives 16 to 21".
unfoldable pub describe_codes : ℕ → Bool
describe_codes c = eqb c 1 || within 3 21 c

-- read_array: 24 and 22 besides.
unfoldable pub array_codes : ℕ → Bool
array_codes c = describe_codes c || (eqb c 24 || eqb c 22)

-- stored_array: 24 besides.
unfoldable pub stored_codes : ℕ → Bool
stored_codes c = describe_codes c || eqb c 24

-- read_pixel: 23 besides.
unfoldable pub pixel_codes : ℕ → Bool
pixel_codes c = describe_codes c || eqb c 23

-- escape, unescape and write. "Writer and text forms: 24 ..; then 25; then 22".
unfoldable pub write_codes : ℕ → Bool
write_codes c = eqb c 24 || (eqb c 25 || eqb c 22)

-- list: 22 alone.
unfoldable pub list_codes : ℕ → Bool
list_codes c = eqb c 22

-- These are all of them.
pub data IsCodes : (ℕ → Bool) → Type 0 where
  of-open : IsCodes open_codes
  of-find : IsCodes find_codes
  of_number : IsCodes number_codes
  of-real : IsCodes real_codes
  of-text : IsCodes text_codes
  of-describe : IsCodes describe_codes
  of_array : IsCodes array_codes
  of-stored : IsCodes stored_codes
  of-pixel : IsCodes pixel_codes
  of-write : IsCodes write_codes
  of-list : IsCodes list_codes
