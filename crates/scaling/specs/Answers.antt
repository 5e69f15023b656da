-- The values of this layer's answers.
use Rattle.std.specs.Prelude.{Option, None, Some, ℤ}
use Rattle.text.specs.declared.signed.Parts.{Parts}
use Rattle.text.specs.Signed.{int_of}

-- The power of ten, where it is inside the bounds.
abbrev pub power_option : Option Parts → Option ℤ
power_option (Some p) = Some (int_of p)
power_option None = None
