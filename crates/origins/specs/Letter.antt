-- The letter and the number of an origin.
use Rattle.std.specs.Prelude.{ℕ}
use Rattle.scan.specs.Byte.{byte, ascii}
use Rattle.keyword.specs.declared.Origin.{Origin}
use Rattle.keyword.specs.declared.Origin.TheVariants as origin

-- "The lister prints o, g or d" (02, No. 1).
abbrev pub letter_of : Origin → ℕ
letter_of origin.Own = byte (ascii "o") 0
letter_of origin.General = byte (ascii "g") 0
letter_of origin.Default = byte (ascii "d") 0

-- The number by which calls for C give it.
abbrev pub number_of : Origin → ℕ
number_of origin.Own = 1
number_of origin.General = 2
number_of origin.Default = 3
