-- Laws of rounding once: products and quotients of values held exactly, the sign, and where nothing is lost.
use mathlib.Core.Path.{◌≡◌, refl, sym, ap, ◌∙◌, subst}
use mathlib.Core.Bool.{Bool, true, false, cond, true≢false}
use Prim.Native.Nat.{ℕ, zero, suc, ◌+◌, ◌*◌, ◌^◌, ◌<◌}
use native.Mathlib.Nat.{mul-one, mul_comm, mul_assoc, mul_left_comm, mul-mul-mul_comm, mul-pos, ne_of_gt, zero-lt-suc, one-le-pow}
use native.Mathlib.Numerals.{add-one}
use borrow.Author.Tests.{ne_eqb}
use lib.IntN.{ℤ}
use lib.Dec.{ltb}
use lib.Pow.{pow_pos}
use lib.Ieee.{Float, inf, fin, Format, binary64, prec, emax, low, up, down, odd, units, round, neg, mul, div}
use lib.Ieee.Fits.{up_pos, down_pos, round_is}
use lib.Ieee.Positive.{first_pos}
use lib.Ieee.Scale.{round_same}
use Rattle.scaling.specs.Scale.{Holds}

-- ---- The sign

neg_odd : (d q k l : ℕ) → neg (odd d false q k l) ≡ odd d true q k l
unfolding neg odd
neg_odd d zero k l = refl
neg_odd d (suc q) k l = refl

neg_cond : (b : Bool) (x y u v : Float) → neg x ≡ u → neg y ≡ v → neg (cond b x y) ≡ cond b u v
neg_cond true x y u v p q = p
neg_cond false x y u v p q = q

neg_inf : neg (inf false) ≡ inf true
unfolding neg
neg_inf = refl

neg_units : (f : Format) (q k : ℕ) → neg (units f false q k) ≡ units f true q k
unfolding units
neg_units f q k =
    neg_cond (ltb (q * 2 ^ k) (2 ^ (low f + suc (emax f)))) (odd (suc (prec f)) false q k (low f)) (inf false)
    (odd (suc (prec f)) true q k (low f)) (inf true) (neg_odd (suc (prec f)) q k (low f)) neg_inf

-- The sign put on last is the sign rounded with: rounding to the nearest does not know it.
pub neg_round : (f : Format) (a b : ℕ) → neg (round f false a b) ≡ round f true a b
neg_round f a b = ap neg (round_is f false a b) ∙ neg_units f _ _ ∙ sym (round_is f true a b)

-- ---- Products and quotients

-- What is known of a value: m * 2^e is the whole number a.
flat : (m : ℕ) (e : ℤ) (a : ℕ) → m * up e * 1 ≡ a * down e → m * up e ≡ a * down e
flat m e a p = sym (mul-one (m * up e)) ∙ p

-- Two whole numbers held exactly, multiplied: their product, rounded once.
pub mul_whole : (f : Format) (x y : Float) (a b : ℕ) → Holds x false a → Holds y false b → mul f x y ≡ round f false (a * b) 1
unfolding mul
mul_whole f lib.Ieee.nan y a b p q = elim p [ ]
mul_whole f (inf _) y a b p q = elim p [ ]
mul_whole f (fin false m e) lib.Ieee.nan a b p q = elim q [ ]
mul_whole f (fin false m e) (inf _) a b p q = elim q [ ]
mul_whole f (fin true m e) y a b p q = absurd (true≢false p.0)
mul_whole f (fin false m e) (fin true n d) a b p q = absurd (true≢false q.0)
mul_whole f (fin false m e) (fin false n d) a b p q =
    round_same f false (m * up e * (n * up d)) (down e * down d) (a * b) 1 (mul-pos (down_pos e) (down_pos d)) (pow_pos 0)
    (mul-one (m * up e * (n * up d)) ∙ rw (flat m e a p.1, flat n d b q.1) (mul-mul-mul_comm a (down e) b (down d)))

-- A value above zero has digits.
some : (n : ℕ) (d : ℤ) (b : ℕ) → 0 < b → n * up d ≡ b * down d → 0 < n
some n d b B q = first_pos n (up d) (subst (λ (z : ℕ). 0 < z) (sym q) (mul-pos B (down_pos d)))

-- Two whole numbers held exactly, divided: their quotient, rounded once.
pub div_whole : (f : Format) (x y : Float) (a b : ℕ) → 0 < b → Holds x false a → Holds y false b → div f x y ≡ round f false a b
unfolding div
div_whole f lib.Ieee.nan y a b B p q = elim p [ ]
div_whole f (inf _) y a b B p q = elim p [ ]
div_whole f (fin false m e) lib.Ieee.nan a b B p q = elim q [ ]
div_whole f (fin false m e) (inf _) a b B p q = elim q [ ]
div_whole f (fin true m e) y a b B p q = absurd (true≢false p.0)
div_whole f (fin false m e) (fin true n d) a b B p q = absurd (true≢false q.0)
div_whole f (fin false m e) (fin false n d) a b B p q =
    let u = flat m e a p.1 in
    let v = flat n d b q.1 in
    let N = some n d b B v in
    rw (ne_eqb n 0 (ne_of_gt N))
    (round_same f false (m * up e * down d) (n * up d * down e) a b (mul-pos (mul-pos N (up_pos d)) (down_pos e)) B
    (rw (u, v) (simp (mul_assoc, mul_comm, mul_left_comm))))

-- ---- Powers of ten

pub ten_pos : (k : ℕ) → 0 < 10 ^ k
ten_pos k = one-le-pow k 10 (zero-lt-suc 9)

-- What `over` says of a power below zero, as the definition has it.
pub over_is : (n k : ℕ) → round binary64 false n (10 ^ (k + 1)) ≡ round binary64 false (n * 1) (10 ^ suc k)
over_is n k = rw (add-one k, mul-one n)
