-- Pieces of a text in which a byte does not stand.
use mathlib.Core.Path.{◌≡◌}
use mathlib.Core.Bool.{false}
use mathlib.Core.Logic.{◌≢◌}
use mathlib.Core.List.Memᴰ
use mathlib.Core.List.{List, [], ◌∷◌, ◌++◌}
use Prim.Native.Nat.{ℕ, ◌+◌, ◌<◌}
use borrow.Author.Tests.{ne_eqb}
use lib.Dec.{eqb}
use lib.IntN.{ℤ}
use Rattle.scan.specs.Byte.{byte}
use Rattle.text.proofs.Everys.{Each}
use Rattle.text.proofs.Parts.{each_nil, each_cons, each_append, each_head}
use Rattle.lexical.specs.Whole.{Digits, one, more, IsWhole, bare, plus, minus}

abbrev pub FreeOf : ℕ → List ℕ → Type 0
FreeOf b = Each (λ (x : ℕ). eqb x b ≡ false)

-- A byte that is no digit.
abbrev pub NoDigit : ℕ → Type 0
NoDigit b = (d : ℕ) → d < 10 → 48 + d ≢ b

module _ (b : ℕ) where
  pub free_nil : FreeOf b []
  free_nil = each_nil (λ (x : ℕ). eqb x b ≡ false)

  pub free_one : (x : ℕ) → x ≢ b → FreeOf b (x ∷ [])
  free_one x h = each_cons (ne_eqb x b h) free_nil

  pub free_append : {k l : List ℕ} → FreeOf b k → FreeOf b l → FreeOf b (k ++ l)
  free_append g h = each_append g h

  -- It is not the first byte.
  pub free_first : (l : List ℕ) → 0 ≢ b → FreeOf b l → eqb (byte l 0) b ≡ false
  free_first [] z h = ne_eqb 0 b z
  free_first (x ∷ l) z h = each_head h

  module _ (no : NoDigit b) where
    pub digits_free : {l : List ℕ} {n : ℕ} → Digits l n → FreeOf b l
    digits_free (one {d} h) = free_one (48 + d) (no d h)
    digits_free (more {l} {n} {d} h k) = free_append (digits_free h) (free_one (48 + d) (no d k))

    pub whole_free : 43 ≢ b → 45 ≢ b → {l : List ℕ} {z : ℤ} → IsWhole l z → FreeOf b l
    whole_free p m (bare h k) = digits_free h
    whole_free p m (plus h k) = each_cons (ne_eqb 43 b p) (digits_free h)
    whole_free p m (minus h k) = each_cons (ne_eqb 45 b m) (digits_free h)

    -- What stands before the point, and after it.
    pub before_free : (k l : List ℕ) {n : ℕ} → Digits (k ++ l) n → FreeOf b k
    before_free k l h x m = digits_free h x (Memᴰ.append_left l m)

    pub after_free : (k l : List ℕ) {n : ℕ} → Digits (k ++ l) n → FreeOf b l
    after_free k l h x m = digits_free h x (Memᴰ.append_right k m)
