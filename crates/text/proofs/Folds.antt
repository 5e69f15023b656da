-- `fold` as std's ASCII letters have it: 32 more for a capital letter, else the byte itself; by one test that is computed over the
-- table.
use Rattle.std.specs.Char.{to_ascii_lowercase}
use mathlib.Core.Path.{◌≡◌, refl, sym}
use Prim.Native.Nat.{ℕ, ◌<◌}
use native.Mathlib.Omega.{arith}
use borrow.Author.Tests.{eqb-true, le-ltb, lt-ltb}
use lib.Dec.{eqb}
use lib.ListN.{get_or-eq_default}
use Rattle.scan.proofs.Below.{all_at}
use Rattle.scan.proofs.Cases.{by_order}
use Rattle.text.specs.Fold.{fold_table, fold}

by_table : (b : ℕ) → b < 128 → to_ascii_lowercase b ≡ fold b
unfolding fold fold_table
by_table b h = eqb-true _ _ (all_at (λ (k : ℕ). eqb (to_ascii_lowercase k) (fold k)) 128 refl b h)

pub fold_lower : (b : ℕ) → to_ascii_lowercase b ≡ fold b
unfolding fold fold_table
fold_lower b =
    by_order 128 b
    (λ out. rw (le-ltb b 65 (omega arith), le-ltb b 91 (omega arith)) (sym (get_or-eq_default fold_table b out)))
    (λ low. by_table b low)

pub fold_high : (b : ℕ) → 90 < b → b ≡ fold b
fold_high b h = rw (← fold_lower b, le-ltb b 65 (omega arith), le-ltb b 91 h) refl

pub fold_low : (b : ℕ) → b < 65 → b ≡ fold b
fold_low b h = rw (← fold_lower b, lt-ltb b 65 h) refl
