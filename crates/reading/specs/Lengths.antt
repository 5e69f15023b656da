-- What EDF_HeaderSize says of a header's length, where it counts.
use Rattle.std.specs.Prelude.{◌≡◌, Bool, true, false, List, ℕ, Option}
use Rattle.blocks.specs.Judging.{is_whole_or_absent, is_length_or_absent}
use Rattle.reading.specs.declared.values.HeaderSize.{HeaderSize}
use Rattle.reading.specs.declared.values.HeaderSize.TheVariants.{Kept, Other, Invalid}

abbrev pub is_readable : HeaderSize → Bool
is_readable Kept = true
is_readable Other = true
is_readable Invalid = false

abbrev pub is_kept : HeaderSize → Bool
is_kept Kept = true
is_kept Other = false
is_kept Invalid = false

-- The value, if there is one, is a whole number or not, and n or not.
pub record SizeSaid (n : ℕ) (value : Option (List ℕ)) (r : HeaderSize) : Type 0 where
  pub whole : is_readable r ≡ is_whole_or_absent value
  pub is_length : is_kept r ≡ is_length_or_absent n value
