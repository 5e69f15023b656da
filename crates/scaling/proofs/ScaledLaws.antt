-- What `scaled` gives, over whole numbers: the number itself where that is a whole number up to the limit, a zero with its sign, always a
-- finite number, a 64-bit float that none is nearer than, and at a tie the even one.
use mathlib.Core.Path.{◌≡◌, refl, sym, ap, ◌∙◌, subst}
use mathlib.Core.Bool.{Bool, true, false}
use Prim.Native.Nat.{ℕ, suc, ◌+◌, ◌-◌, ◌*◌, ◌/◌, ◌%◌, ◌^◌, ◌≤◌, ◌<◌, compare}
use native.Mathlib.Nat.{le_trans, le_of_eq, lt_of_le_of_lt, lt_of_lt_of_le, mul-one, zero-mul, zero-lt-suc, mul-le-mul, mul-le-mul_right, mul-lt-mul_of_pos_right, mul_right_comm, div-lt_iff_lt-mul, div-div-eq-div-mul, pow-le-pow_right, le-mul_of_pos_right}
use native.Mathlib.Omega.{arith}
use lib.Dec.{T, lit<}
use lib.IntN.{ℤ, pos, negsuc, nat_abs}
use lib.Pow.{pow-add, pow_pos, pow_mono, pow-lt}
use lib.Ieee.{Float, nan, inf, fin, Format, binary64, prec, emax, low, size, round, neg}
use lib.Ieee.Digits.{size-le}
use lib.Ieee.Fits.{nearest-le, kept-lt}
use lib.Ieee.Order.{drop, kept}
use lib.Ieee.Exact.{HasValue}
use lib.Ieee.Positive.{num, den}
use lib.Ieee.Scale.{round_same, round_val, grid, overflow, finite}
use lib.Ieee.Back.{round_whole}
use Rattle.scaling.specs.Limits.{coefficient_limit, power_limit}
use Rattle.scaling.specs.Scale.{Holds, numerator, denominator, with_sign, scaled}
use Rattle.scaling.specs.Nearest.{Nearest, Halfway, IsEven}
use Rattle.scaling.proofs.NearestLaws.{round_near}
use Rattle.scaling.proofs.RoundingLaws.{neg_round, ten_pos}
use Rattle.scaling.proofs.TieLaws.{tie-even}

-- ---- The sign put on last is the sign that is rounded with

pub signed_round : (f : Format) (s : Bool) (a b : ℕ) → with_sign s (round f false a b) ≡ round f s a b
signed_round f true a b = neg_round f a b
signed_round f false a b = refl

pub scaled_round : (s : Bool) (c : ℕ) (p : ℤ) → scaled s c p ≡ round binary64 s (c * numerator p) (denominator p)
unfolding scaled
scaled_round s c p = signed_round binary64 s (c * numerator p) (denominator p)

pub down_some : (p : ℤ) → 0 < denominator p
down_some (pos k) = zero-lt-suc 0
down_some (negsuc k) = ten_pos (suc k)

-- ---- The exact case: c * 10^p is the whole number n, up to 2^53

pub exact : (s : Bool) (c : ℕ) (p : ℤ) (n : ℕ) → n ≤ coefficient_limit → c * numerator p ≡ n * denominator p → Holds (scaled s c p) s n
exact s c p n h e =
    subst (λ (x : Float). Holds x s n)
    (sym (scaled_round s c p
    ∙ round_same binary64 s (c * numerator p) (denominator p) n 1 (down_some p) (zero-lt-suc 0) (mul-one (c * numerator p) ∙ e)))
    (round_whole binary64 s n h)

-- ---- Zero keeps its sign

zero_is : (s : Bool) → round binary64 s 0 1 ≡ fin s 0 (pos 0)
unfolding round
zero_is s = refl

pub zeros : (s : Bool) (p : ℤ) → scaled s 0 p ≡ fin s 0 (pos 0)
zeros s p =
    scaled_round s 0 p
    ∙ round_same binary64 s (0 * numerator p) (denominator p) 0 1 (down_some p) (zero-lt-suc 0)
    (mul-one (0 * numerator p) ∙ zero-mul (numerator p) ∙ sym (zero-mul (denominator p)))
    ∙ zero_is s

-- ---- No infinity, no NaN

-- What is kept has at most the digits of the format.
kept_most : (p n d : ℕ) → kept p n d ≤ 2 ^ p
kept_most p n d =
    let k = drop p n d in
    let u = d * 2 ^ k in
    le_trans (nearest-le (n / u) (compare (n % u * 2) u)) (subst (λ (x : ℕ). x < 2 ^ p) (div-div-eq-div-mul n d (2 ^ k)) (kept-lt p (n / d)))

fewer : (z p b l : ℕ) → z ≤ b + l → p + (z - p) ≤ p + b + l
fewer z p b l h = omega arith

enough : (p b l e : ℕ) → p + b < e → p + b + l < l + e
enough p b l e h = omega arith

-- A fraction below 2^b, with room above that for the digits kept.
under : (f : Format) (b a d : ℕ) → 0 < d → a < 2 ^ b * d → prec f + b < suc (emax f) → grid f a d < overflow f
under f b a d D h room =
    let p = prec f in
    let l = low f in
    let n = a * 2 ^ l in
    let small : n / d < 2 ^ (b + l) =
    (div-lt_iff_lt-mul D).1
    (lt_of_lt_of_le (mul-lt-mul_of_pos_right h (pow_pos l))
    (le_of_eq (mul_right_comm (2 ^ b) d (2 ^ l) ∙ ap (λ (x : ℕ). x * d) (sym (pow-add 2 b l))))) in
    lt_of_le_of_lt (mul-le-mul_right (2 ^ drop p n d) (kept_most p n d))
    (lt_of_le_of_lt (le_of_eq (sym (pow-add 2 p (drop p n d))))
    (lt_of_le_of_lt (pow_mono (fewer (size (n / d)) p b l (size-le (n / d) (b + l) small))) (pow-lt (enough p b l (suc (emax f)) room))))

finite_of : (x : Float) (s : Bool) (a d : ℕ) → HasValue x s a d → T (finite x)
finite_of nan s a d h = absurd h
finite_of (inf t) s a d h = absurd h
finite_of (fin t m e) s a d h = tt

finite_sign : (s : Bool) (x : Float) → T (finite x) → T (finite (with_sign s x))
unfolding neg
finite_sign false x h = h
finite_sign true nan h = absurd h
finite_sign true (inf t) h = absurd h
finite_sign true (fin t m e) h = tt

-- 2^53 * 10^22 is below 2^127
bounded : (c : ℕ) (p : ℤ) → c ≤ coefficient_limit → nat_abs p ≤ power_limit → c * numerator p < 2 ^ 127 * denominator p
bounded c (pos k) h g =
    lt_of_le_of_lt (mul-le-mul h (pow-le-pow_right {n = 10} (zero-lt-suc 9) g))
    (lt_of_lt_of_le (lit< {m = coefficient_limit * 10 ^ power_limit} {n = 2 ^ 127} tt) (le_of_eq (sym (mul-one (2 ^ 127)))))
bounded c (negsuc k) h g =
    lt_of_le_of_lt (le_of_eq (mul-one c))
    (lt_of_le_of_lt h (lt_of_lt_of_le (lit< {m = coefficient_limit} {n = 2 ^ 127} tt) (le-mul_of_pos_right (2 ^ 127) (ten_pos (suc k)))))

pub scaled_finite : (s : Bool) (c : ℕ) (p : ℤ) → c ≤ coefficient_limit → nat_abs p ≤ power_limit → T (finite (scaled s c p))
unfolding scaled
scaled_finite s c p h g =
    finite_sign s (round binary64 false (c * numerator p) (denominator p))
    (finite_of (round binary64 false (c * numerator p) (denominator p)) false (grid binary64 (c * numerator p) (denominator p)) (2 ^ low binary64)
    (round_val binary64 (c * numerator p) (denominator p)
    (under binary64 127 (c * numerator p) (denominator p) (down_some p) (bounded c p h g) (lit< tt))))

-- ---- a nearest 64-bit float

num_sign : (s : Bool) (x : Float) → num (with_sign s x) ≡ num x
unfolding neg
num_sign false x = refl
num_sign true nan = refl
num_sign true (inf t) = refl
num_sign true (fin t m e) = refl

den_sign : (s : Bool) (x : Float) → den (with_sign s x) ≡ den x
unfolding neg
den_sign false x = refl
den_sign true nan = refl
den_sign true (inf t) = refl
den_sign true (fin t m e) = refl

pub scaled_near : (s : Bool) (c : ℕ) (p : ℤ) → c ≤ coefficient_limit → nat_abs p ≤ power_limit
    → Nearest binary64 (scaled s c p) (c * numerator p) (denominator p)
unfolding scaled
scaled_near s c p h g y t u =
    let x = round binary64 false (c * numerator p) (denominator p) in
    let b = under binary64 127 (c * numerator p) (denominator p) (down_some p) (bounded c p h g) (lit< tt) in
    rw (num_sign s x, den_sign s x) (round_near binary64 (c * numerator p) (denominator p) (down_some p) b y t u)

-- ---- a tie goes to the even one

value_sign : (s : Bool) (x : Float) (a d : ℕ) → HasValue x false a d → HasValue (with_sign s x) s a d
unfolding neg
value_sign false x a d h = h
value_sign true nan a d h = absurd h
value_sign true (inf t) a d h = absurd h
value_sign true (fin t m e) a d h = (rw h.0, h.1)

pub scaled_even : (s : Bool) (c : ℕ) (p : ℤ) → c ≤ coefficient_limit → nat_abs p ≤ power_limit → {q j : ℕ}
    → Halfway binary64 (c * numerator p) (denominator p) q j → IsEven binary64 (scaled s c p) s q j
unfolding scaled
scaled_even s c p h g {q} {j} half =
    let a = c * numerator p in
    let b = denominator p in
    let fits = under binary64 127 a b (down_some p) (bounded c p h g) (lit< tt) in
    value_sign s (round binary64 false a b) ((q + q % 2) * 2 ^ suc j) (2 ^ low binary64)
    (subst (λ (n : ℕ). HasValue (round binary64 false a b) false n (2 ^ low binary64)) (tie-even binary64 a b q j (down_some p) half)
    (round_val binary64 a b fits))
