-- The length of a header, by the boundary and by what EDF_HeaderSize says.
use mathlib.Core.Path.{◌≡◌}
use mathlib.Core.Bool.{true, false}
use mathlib.Core.List.{List}
use Prim.Native.Nat.{ℕ, ◌%◌}
use lib.Dec.{eqb}
use Rattle.scan.proofs.Cases.{by_test}
use Rattle.header.specs.Entries.{value_in}
use Rattle.header.specs.Entry.{Entry}
use Rattle.blocks.specs.Judging.{is_length_or_absent, length_allowed}
use Rattle.blocks.specs.Counting.{counting_in}
use Rattle.blocks.specs.Keys.{HeaderSizeKey}
use Rattle.blocks.specs.declared.FileRules.{FileRules}

module _ (r : FileRules) (es : List Entry) (header : ℕ) where
  pub length_other : is_length_or_absent header (value_in HeaderSizeKey (counting_in r.kind es)) ≡ false → length_allowed r es header ≡ false
  unfolding length_allowed
  length_other e = by_test (eqb (header % r.boundary) 0) (λ t. rw (t, e)) (λ t. rw t)

  pub length_kept : is_length_or_absent header (value_in HeaderSizeKey (counting_in r.kind es)) ≡ true
      → length_allowed r es header ≡ eqb (header % r.boundary) 0
  unfolding length_allowed
  length_kept e = by_test (eqb (header % r.boundary) 0) (λ t. rw (t, e)) (λ t. rw t)
