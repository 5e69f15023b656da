-- Digits put one after another, the last first: a turn moves a digit from the number to the text.
use mathlib.Core.Path.{◌≡◌, refl, sym, ap, ◌∙◌}
use mathlib.Core.List.{List, [], ◌∷◌}
use Prim.Native.Nat.{ℕ, zero, suc, ◌+◌, ◌-◌, ◌/◌, ◌%◌, ◌^◌, ◌≤◌, ◌<◌}
use native.Mathlib.Nat.{le_of_suc-le-suc, not-suc-le-zero, pow-suc, div-lt_iff_lt-mul}
use native.Mathlib.Numerals.{add-one}
use native.Mathlib.Omega.{arith}
use borrow.Author.Tests.{lt-ltb, le-ltb}
use lib.ListN.{length, take, drop, set, length-drop}
use lib.Seq.{take_all, take-take, take-set-le}
use Rattle.text.specs.Decimal.{digits_of}

-- After a store at j, the list from j on begins with what was stored.
stored : (t : List ℕ) (j g : ℕ) → j < length t → drop j (set t j g) ≡ g ∷ drop (suc j) t
stored [] j g h = absurd (not-suc-le-zero h)
stored (x ∷ xs) zero g h = refl
stored (x ∷ xs) (suc j) g h = stored xs j g (le_of_suc-le-suc h)

-- What stands before a store stays.
pub front_kept : (k n i g : ℕ) (t before : List ℕ) → k ≤ n → k ≤ i → take n t ≡ take n before → take k (set t i g) ≡ take k before
front_kept k n i g t before h l e = take-set-le k t i g l ∙ sym (take-take k n t h) ∙ ap (take k) e ∙ take-take k n before h

pub more : (i n : ℕ) → 0 < i → 9 < n → n < 10 ^ i → 1 < i
more zero n some h k = absurd (omega arith)
more (suc zero) n some h k = absurd (omega arith)
more (suc (suc i)) n some h k = omega arith

pub less : (i n : ℕ) → 0 < i → n < 10 ^ i → n / 10 < 10 ^ (i - 1)
less zero n some k = absurd (omega arith)
less (suc j) n some k =
    let e : suc j - 1 ≡ j = omega arith in
    rw e ((div-lt_iff_lt-mul {k = 10} {x = n} {y = 10 ^ j} (omega arith)).1 (rw pow-suc at k))

-- A digit that is not the first, and the first.
pub turn : (i n : ℕ) (out : List ℕ) → 0 < i → i < length out → 9 < n
    → digits_of (i - 1) (n / 10) (drop (i - 1 + 1) (set out i (48 + n % 10))) ≡ digits_of i n (drop (i + 1) out)
unfolding digits_of
turn zero n out some within h = absurd (omega arith)
turn (suc j) n out some within h =
    let e : suc j - 1 ≡ j = omega arith in
    rw (e, add-one j, add-one (suc j), stored out (suc j) (48 + n % 10) within, le-ltb n 10 h)

pub last : (i n : ℕ) (out : List ℕ) → 0 < i → i < length out → n ≤ 9 → drop i (set out i (48 + n)) ≡ digits_of i n (drop (i + 1) out)
unfolding digits_of
last zero n out some within h = absurd (omega arith)
last (suc j) n out some within h = rw (add-one (suc j), stored out (suc j) (48 + n) within, lt-ltb n 10 (omega arith))

-- The part `&t[at..]` of an array of 20.
pub end_is : (t : List ℕ) (at : ℕ) → length t ≡ 20 → take (20 - at) (drop at t) ≡ drop at t
end_is t at e = take_all (20 - at) (drop at t) (simp length-drop (omega arith))
