-- Bytes as code reads them one by one, at any width.
use mathlib.Core.Path.{◌≡◌, refl, sym, ap, ◌∙◌}
use mathlib.Core.List.{List, [], ◌∷◌}
use Prim.Native.Nat.{ℕ, zero, suc, ◌+◌, ◌≤◌, ◌<◌}
use native.Mathlib.Omega.{arith}
use lib.ListN.{length, take, drop, get_or}
use lib.Seq.{drop-cons, take_all}

-- w reads of s, at p + k, p + (k + 1), ..
abbrev pub reads : List ℕ → ℕ → ℕ → ℕ → List ℕ
reads s p k zero = []
reads s p k (suc w) = get_or s (p + k) 0 ∷ reads s p (suc k) w

reads_from : (s : List ℕ) (p k w : ℕ) → p + k + w ≤ length s → reads s p k w ≡ take w (drop (p + k) s)
reads_from s p k zero h = refl
reads_from s p k (suc w) h =
    let e : suc (p + k) ≡ p + suc k = omega arith in
    let j : p + k < length s = omega arith in
    rw (drop-cons s (p + k) 0 j)
    (ap (λ (l : List ℕ). get_or s (p + k) 0 ∷ l) (reads_from s p (suc k) w (omega arith) ∙ ap (λ (m : ℕ). take w (drop m s)) (sym e)))

pub reads_are : (w : ℕ) (s : List ℕ) (p : ℕ) → p + w ≤ length s → reads s p 0 w ≡ take w (drop p s)
reads_are w s p h = let e : p + 0 ≡ p = omega arith in reads_from s p 0 w (omega arith) ∙ ap (λ (m : ℕ). take w (drop m s)) e

-- The elements of an array of w.
pub array_is : (w : ℕ) (l : List ℕ) → length l ≡ w → reads l 0 0 w ≡ l
array_is w l e = reads_are w l 0 (omega arith) ∙ take_all w l (omega arith)
