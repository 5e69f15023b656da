-- The rule of the table of powers: one test, which antt computes over the whole table.
use mathlib.Core.Path.{refl, sym, subst, ◌∙◌}
use mathlib.Core.Bool.{Bool, true, false, ◌&&◌}
use mathlib.Core.List.{List, [], ◌∷◌}
use Prim.Native.Nat.{ℕ, zero, suc, ◌+◌, ◌*◌, ◌^◌, ◌<◌}
use native.Mathlib.Nat.{add-zero, zero-add, add-suc, suc-add, le_of_suc-le-suc, not-suc-le-zero}
use lib.Dec.{T, eqb, eqb→eq}
use lib.ListN.{length, get_or}
use lib.Ieee.{Float, nan, inf, fin, up, down, binary64, of_bits}
use lib.Ieee.Fits.{and_l, and_r}
use Rattle.scaling.specs.Scale.{Holds}

-- Whether x is the whole number n.
abbrev pub holds : Float → ℕ → Bool
holds nan n = false
holds (inf s) n = false
holds (fin true m e) n = false
holds (fin false m e) n = eqb (m * up e * 1) (n * down e)

pub holds_is : (x : Float) (n : ℕ) → T (holds x n) → Holds x false n
holds_is nan n t = absurd t
holds_is (inf s) n t = absurd t
holds_is (fin true m e) n t = absurd t
holds_is (fin false m e) n t = (refl, eqb→eq (m * up e * 1) (n * down e) t)

-- The entries of a list are the powers of ten, counted from i.
abbrev pub tens : ℕ → List Float → Bool
tens i [] = true
tens i (x ∷ xs) = holds x (10 ^ i) && tens (suc i) xs

from : (xs : List Float) (i : ℕ) → T (tens i xs) → (k : ℕ) → k < length xs → T (holds (get_or xs k nan) (10 ^ (i + k)))
from [] i t k h = absurd (not-suc-le-zero h)
from (x ∷ xs) i t zero h = subst (λ (m : ℕ). T (holds x (10 ^ m))) (sym (add-zero i)) (and_l (holds x (10 ^ i)) (tens (suc i) xs) t)
from (x ∷ xs) i t (suc k) h =
    subst (λ (m : ℕ). T (holds (get_or xs k nan) (10 ^ m))) (suc-add i k ∙ sym (add-suc i k))
    (from xs (suc i) (and_r (holds x (10 ^ i)) (tens (suc i) xs) t) k (le_of_suc-le-suc h))

pub entry : (xs : List Float) → T (tens 0 xs) → (k : ℕ) → k < length xs → Holds (get_or xs k nan) false (10 ^ k)
entry xs t k h = holds_is (get_or xs k nan) (10 ^ k) (subst (λ (m : ℕ). T (holds (get_or xs k nan) (10 ^ m))) (zero-add k) (from xs 0 t k h))

-- The table as the program has it: each entry by its bit pattern.
abbrev of_patterns : List ℕ → List Float
of_patterns [] = []
of_patterns (n ∷ ns) = of_bits binary64 n ∷ of_patterns ns

abbrev pub powers : List Float
powers = of_patterns (
    0x3ff0_0000_0000_0000 ∷ 0x4024_0000_0000_0000 ∷ 0x4059_0000_0000_0000 ∷ 0x408f_4000_0000_0000 ∷ 0x40c3_8800_0000_0000 ∷ 0x40f8_6a00_0000_0000 ∷
    0x412e_8480_0000_0000 ∷ 0x4163_12d0_0000_0000 ∷ 0x4197_d784_0000_0000 ∷ 0x41cd_cd65_0000_0000 ∷ 0x4202_a05f_2000_0000 ∷ 0x4237_4876_e800_0000 ∷
    0x426d_1a94_a200_0000 ∷ 0x42a2_309c_e540_0000 ∷ 0x42d6_bcc4_1e90_0000 ∷ 0x430c_6bf5_2634_0000 ∷ 0x4341_c379_37e0_8000 ∷ 0x4376_3457_85d8_a000 ∷
    0x43ab_c16d_674e_c800 ∷ 0x43e1_58e4_6091_3d00 ∷ 0x4415_af1d_78b5_8c40 ∷ 0x444b_1ae4_d6e2_ef50 ∷ 0x4480_f0cf_064d_d592 ∷ []
    )

-- Entry k is 10^k.
pub power_is : (k : ℕ) → k < 23 → Holds (get_or powers k nan) false (10 ^ k)
unfolding of_bits
power_is k h = entry powers tt k h
