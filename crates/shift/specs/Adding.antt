-- What an `Addition` makes of the bytes of an element.
use Rattle.std.specs.Prelude.{List, ℕ}
use Rattle.shift.specs.Shifting.{shifted_bytes}
use Rattle.shift.specs.declared.shift.Addition.{Addition}

-- An element of w bytes.
abbrev pub added : ℕ → Addition → List ℕ → List ℕ
added w a l = shifted_bytes w a.shift a.order a.asked l
