-- The search for an identity among the rows before, on plain values.
use mathlib.Core.Path.{◌≡◌, refl, sym, ap, ◌∙◌}
use mathlib.Core.Bool.{Bool, ◌||◌}
use mathlib.Core.List.{List, [], ◌∷◌}
use borrow.Author.Tests.{eq-eqb, ne_eqb}
use lib.Dec.{eqb}
use lib.IntN.{ℤ}
use mir.Facts.{to_z-of_z}
use mir.Syntax.{w64}
use mir.Val.{SFits, of_z, to_z}
use Rattle.std.specs.List.{list_any}
use Rattle.scan.proofs.Cases.{by_test}
use Rattle.scan.proofs.Decides.{decided, refuted}
use Rattle.blocks.specs.Opening.{same_number, same_identity, identity_among}
use Rattle.blocks.specs.declared.Row.{Row}
use Rattle.blocks.proofs.Identities.{number_decides}

-- ---- Two identities

-- The machine compares the bits.
pub same_bits : (a b : ℤ) → SFits w64 a → SFits w64 b → eqb (of_z w64 a) (of_z w64 b) ≡ same_number a b
same_bits a b f g =
    by_test (same_number a b)
    (λ e. rw e (eq-eqb (of_z w64 a) (of_z w64 b) (ap (of_z w64) (decided (number_decides a b) e))))
    (λ e. rw e (ne_eqb (of_z w64 a) (of_z w64 b) (λ p. refuted (number_decides a b) e (sym (to_z-of_z f) ∙ ap (to_z w64) p ∙ to_z-of_z g))))

-- ---- The search over rows

-- As the library tests each row.
pub among_any : (x : Row) (rows : List Row) → identity_among x rows ≡ list_any (λ (y : Row). same_identity y x) rows
unfolding identity_among
among_any x [] = refl
among_any x (y ∷ ys) = ap (λ (b : Bool). same_identity y x || b) (among_any x ys)
