-- Runs of bytes: elements that stand one after another.
use mathlib.Core.Path.{◌≡◌, sym, ap, ◌∙◌}
use mathlib.Core.Bool.{false}
use mathlib.Core.List.{List, ◌++◌}
use Prim.Native.Nat.{ℕ, zero, suc, ◌+◌, ◌-◌, ◌*◌, ◌≤◌}
use native.Mathlib.Nat.{mul-zero, mul-suc, zero-mul}
use native.Mathlib.Omega.{arith}
use lib.ListN.{take, drop}
use lib.Seq.{take-add, drop-drop}
use Rattle.raster.specs.Bytes.{joined}
use Rattle.raster.specs.Strided.{turned, place, Inside, row_of}

-- Elements that stand one after another are a run.
pub flat : (w : ℕ) (s : List ℕ) (at n : ℕ) → row_of (turned false) w s at w 0 n ≡ take (w * n) (drop at s)
unfolding row_of joined
flat w s at zero = ap (λ (k : ℕ). take k (drop at s)) (sym (mul-zero w))
flat w s at (suc n) =
    let e : place at w 0 n ≡ at + w * n = omega (arith, zero-mul n) in
    (λ j. flat w s at n j ++ take w (drop (e j) s))
    ∙ ap (λ (x : List ℕ). take (w * n) (drop at s) ++ take w x) (sym (drop-drop (w * n) at s))
    ∙ sym (take-add (w * n) w (drop at s)) ∙ ap (λ (k : ℕ). take k (drop at s)) (sym (mul-suc w n))

pub runs_inside : (w up down at n len m : ℕ) → up ≡ w → down ≡ 0 → m ≡ w * n → Inside at up down n w len → m ≤ len - at
runs_inside w up down at zero len m u d e i = omega (arith, mul-zero w)
runs_inside w up down at (suc n) len m u d e i =
    let k = i n (omega arith) in
    let x : up * n ≡ w * n = ap (λ (j : ℕ). j * n) u in
    omega (arith, k.1, x, mul-suc w n)

pub ran : (w up down at n m : ℕ) (s l : List ℕ) → up ≡ w → down ≡ 0 → m ≡ w * n → l ≡ take m (drop at s)
    → l ≡ row_of (turned false) w s at up down n
ran w up down at n m s l u d e h =
    h ∙ ap (λ (k : ℕ). take k (drop at s)) e ∙ sym (flat w s at n) ∙ (λ k. row_of (turned false) w s at (sym u k) (sym d k) n)
