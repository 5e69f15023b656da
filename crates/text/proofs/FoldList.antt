-- `fold` gives at every number what the rule for letters gives.
use mathlib.Core.Path.{◌≡◌, refl, sym, ap, fun_ext}
use mathlib.Core.List.{List, map}
use Prim.Native.Nat.{ℕ, ◌≤◌, ◌<◌}
use native.Mathlib.Omega.{arith}
use borrow.Author.Tests.{eqb-true, le-leb, lt-leb}
use lib.Dec.{eqb}
use Rattle.scan.proofs.Below.{all_at}
use Rattle.scan.proofs.Cases.{by_order}
use Rattle.text.specs.Fold.{fold, fold_table}
use Rattle.text.specs.Key.{strip, key_of}
use Rattle.text.proofs.FoldRule.{by_rule}
use Rattle.text.proofs.Folds.{fold_high}

-- At every byte the list gives what the rule gives: one test, computed over all 256.
pub byte_unchanged : (b : ℕ) → b < 256 → fold b ≡ by_rule b
unfolding fold fold_table by_rule
byte_unchanged b h = eqb-true _ _ (all_at (λ (k : ℕ). eqb (fold k) (by_rule k)) 256 refl b h)

-- Numbers that are no bytes stay by both.
beyond : (b : ℕ) → 256 ≤ b → fold b ≡ by_rule b
unfolding by_rule
beyond b h = sym (rw (le-leb 65 b (omega arith), lt-leb b 90 (omega arith)) (fold_high b (omega arith)))

-- So the two are one function, and what is defined by the list is what it would be by the rule: a key.
pub fold_unchanged : fold ≡ by_rule
fold_unchanged = fun_ext (λ b. by_order 256 b (beyond b) (byte_unchanged b))

pub key_unchanged : (l : List ℕ) → key_of l ≡ map by_rule (strip l)
unfolding key_of
key_unchanged l = ap (λ (f : ℕ → ℕ). map f (strip l)) fold_unchanged
