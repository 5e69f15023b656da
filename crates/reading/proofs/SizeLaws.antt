-- What EDF_HeaderSize says of a header's length, where the key may be absent.
use Rattle.std.specs.Prelude.{Option, None, Some}
use mathlib.Core.Path.{◌≡◌, sym}
use mathlib.Core.List.{List}
use Prim.Native.Nat.{ℕ}
use Rattle.blocks.specs.Judging.{is_whole_or_absent, is_length_or_absent}
use Rattle.reading.specs.Lengths.{SizeSaid}
use Rattle.reading.specs.declared.values.HeaderSize.{HeaderSize}
use Rattle.reading.specs.declared.values.HeaderSize.TheVariants.{Kept}

module _ (n : ℕ) {o : Option (List ℕ)} where
  pub said_absent : o ≡ None → SizeSaid n o Kept
  unfolding is_whole_or_absent is_length_or_absent
  said_absent e = record { whole = rw e; is_length = rw e }

  pub said_value : {w : List ℕ} → o ≡ Some w → (v : List ℕ) → v ≡ w → {r : HeaderSize} → SizeSaid n (Some v) r → SizeSaid n o r
  said_value e v p q = rw (e, sym p) q
