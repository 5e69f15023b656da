-- Facts on each byte of a list, and a part of the file that ends at a mark.
use mathlib.Core.Path.{◌≡◌, refl, sym, ap, ◌∙◌}
use mathlib.Core.List.Memᴰ
use mathlib.Core.List.{List, [], ◌∷◌, ◌++◌}
use mathlib.Core.Bool.{Bool, true, false, false≢true}
use mathlib.Core.Logic.{⊎_elim}
use Prim.Native.Nat.{ℕ, zero, suc, ◌+◌, ◌-◌, ◌≤◌, ◌<◌}
use native.Mathlib.Nat.{le_of_suc-le-suc, not-suc-le-zero}
use native.Mathlib.Numerals.{add-one}
use native.Mathlib.Omega.{arith}
use lib.ListN.{length, take, drop, replicate, get_or-append}
use lib.Seq.{get_or-drop, drop-drop, drop-nil, take-nil, take-append_seam, drop-append_seam, get_or-append_seam}
use Rattle.scan.specs.Byte.{byte, between}
use Rattle.scan.proofs.Decides.{Decides, holds, fails, decided, passes}
use Rattle.text.specs.Text.{every}
use Rattle.text.proofs.Everys.{Each, every_decides}

-- ---- Each element

pub each_nil : {A : Type 0} (P : A → Type 0) → Each P []
each_nil P x m = absurd (Memᴰ.not-nil m)

module _ {A : Type 0} {P : A → Type 0} where
  pub each_cons : {y : A} {l : List A} → P y → Each P l → Each P (y ∷ l)
  each_cons p h x m = ⊎_elim (λ e. rw e p) (h x) (Memᴰ.cases_cons m)

  pub each_append : {k l : List A} → Each P k → Each P l → Each P (k ++ l)
  each_append {k} g h x m = ⊎_elim (g x) (h x) (Memᴰ.append_cases k m)

  pub each_head : {y : A} {l : List A} → Each P (y ∷ l) → P y
  each_head {y} h = h y (Memᴰ.head refl)

  pub each_tail : {y : A} {l : List A} → Each P (y ∷ l) → Each P l
  each_tail h x m = h x (Memᴰ.tail m)

pub each-replicate : {A : Type 0} (P : A → Type 0) (y : A) (n : ℕ) → P y → Each P (replicate n y)
each-replicate P y zero h = each_nil P
each-replicate P y (suc n) h = each_cons h (each-replicate P y n h)

pub each-byte : {P : ℕ → Type 0} (l : List ℕ) → Each P l → (k : ℕ) → k < length l → P (byte l k)
each-byte [] h k in-l = absurd (not-suc-le-zero in-l)
each-byte (b ∷ l) h zero in-l = each_head h
each-byte (b ∷ l) h (suc k) in-l = each-byte l (each_tail h) k (le_of_suc-le-suc in-l)

-- A test that every element passes, each passes, and back.
tests_decide : {A : Type 0} (p : A → Bool) (l : List A) → Decides (Each (λ x. p x ≡ true) l) (every p l)
tests_decide p l = every_decides (λ x. p x ≡ true) (λ x. itself (p x)) l
  where
    itself : (b : Bool) → Decides (b ≡ true) b
    itself true = holds refl
    itself false = fails false≢true

pub every-each : {A : Type 0} (p : A → Bool) (l : List A) → every p l ≡ true → Each (λ x. p x ≡ true) l
every-each p l e = decided (tests_decide p l) e

pub each-every : {A : Type 0} (p : A → Bool) (l : List A) → Each (λ x. p x ≡ true) l → every p l ≡ true
each-every p l h = passes (tests_decide p l) h

-- ---- What stands from an offset on, up to a mark

-- The file from an offset on.
pub record From (s : List ℕ) (at : ℕ) (l : List ℕ) : Type 0 where
  pub is : drop at s ≡ l

drop-take : (m n : ℕ) (l : List ℕ) → drop m (take (m + n) l) ≡ take n (drop m l)
drop-take zero n l = let e : 0 + n ≡ n = omega arith in rw e
drop-take (suc m) n [] = rw (drop-nil (suc m), take-nil (suc m + n), take-nil n)
drop-take (suc m) n (b ∷ l) = let e : suc m + n ≡ suc (m + n) = omega arith in rw e (drop-take m n l)

module _ {s : List ℕ} {at : ℕ} (part : List ℕ) (mark : ℕ) (rest : List ℕ) (e : From s at (part ++ (mark ∷ rest))) where
  pub part_byte : {P : ℕ → Type 0} → Each P part → (k : ℕ) → at ≤ k → k < at + length part → P (byte s k)
  part_byte h k low high =
      let same : at + (k - at) ≡ k = omega arith in
      let inside : k - at < length part = omega arith in
      let here : byte s (at + (k - at)) ≡ byte part (k - at) =
      sym (get_or-drop at s (k - at) 0) ∙ ap (λ (l : List ℕ). byte l (k - at)) e.is ∙ get_or-append part (mark ∷ rest) 0 (k - at) inside in
      rw (rw same at here) (each-byte part h (k - at) inside)

  pub mark_byte : byte s (at + length part) ≡ mark
  mark_byte = sym (get_or-drop at s (length part) 0) ∙ ap (λ (l : List ℕ). byte l (length part)) e.is ∙ get_or-append_seam part mark rest 0

  pub part_is : between s at (at + length part) ≡ part
  part_is = drop-take at (length part) s ∙ ap (take (length part)) e.is ∙ take-append_seam part (mark ∷ rest)

  pub rest_is : From s (suc (at + length part)) rest
  rest_is =
      let from : drop (at + length part) s ≡ mark ∷ rest =
      sym (drop-drop (length part) at s) ∙ ap (drop (length part)) e.is ∙ drop-append_seam part (mark ∷ rest) in
      record { is = rw (← add-one (at + length part)) (sym (drop-drop 1 (at + length part) s) ∙ ap (drop 1) from) }
