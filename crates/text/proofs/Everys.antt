-- `every` decides that each element of a list has a property, and its denial that some element lacks it.
use Rattle.std.specs.List.{list_all}
use mathlib.Core.Path.{◌≡◌, refl, ap}
use mathlib.Core.Bool.{Bool, not, ◌&&◌}
use mathlib.Core.List.Memᴰ
use mathlib.Core.List.{List, [], ◌∷◌, Memᴰ}
use mathlib.Core.Logic.{⊎_elim}
use Rattle.scan.proofs.Decides.{Decides, holds, fails, decides_and, decides_by}
use Rattle.text.specs.Text.{every}

-- `every` is std's `list_all`.
pub list_all-every : {A : Type 0} (p : A → Bool) (l : List A) → list_all p l ≡ every p l
list_all-every p [] = refl
list_all-every p (x ∷ l) = ap (λ (b : Bool). p x && b) (list_all-every p l)

-- Each element has the property; some element lacks it.
abbrev pub Each : {A : Type 0} → (A → Type 0) → List A → Type 0
Each {A} P l = (x : A) → Memᴰ x l → P x

abbrev pub Lacks : {A : Type 0} → (A → Type 0) → List A → Type 0
Lacks {A} P l = (x : A) × Memᴰ x l × (P x → ⊥)

module _ {A : Type 0} (P : A → Type 0) {p : A → Bool} (decides : (x : A) → Decides (P x) (p x)) where
  pub every_decides : (l : List A) → Decides (Each P l) (every p l)
  every_decides [] = holds (λ x m. absurd (Memᴰ.not-nil m))
  every_decides (y ∷ l) =
      decides_by (λ h x m. ⊎_elim (λ e. rw e h.0) (h.1 x) (Memᴰ.cases_cons m))
      (λ h. (h y (Memᴰ.head refl), λ x m. h x (Memᴰ.tail m)))
      (decides_and (decides y) (every_decides l))

  lacks_cons : (y : A) (l : List A) {a : Bool} (b : Bool) → Decides (P y) a → Decides (Lacks P l) (not b)
      → Decides (Lacks P (y ∷ l)) (not (a && b))
  lacks_cons y l b (holds q) d =
      decides_by (λ h. (h.0, Memᴰ.tail h.1, h.2))
      (λ h. ⊎_elim (λ e. absurd (h.2 (rw e q))) (λ m. (h.0, m, h.2)) (Memᴰ.cases_cons h.1)) d
  lacks_cons y l b (fails n) d = holds (y, Memᴰ.head refl, n)

  pub lacks_decides : (l : List A) → Decides (Lacks P l) (not (every p l))
  lacks_decides [] = fails (λ h. Memᴰ.not-nil h.1)
  lacks_decides (y ∷ l) = lacks_cons y l (every p l) (decides y) (lacks_decides l)
