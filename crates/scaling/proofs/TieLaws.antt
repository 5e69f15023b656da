-- A number halfway between two neighbours is rounded to the even one.
use mathlib.Core.Path.{◌≡◌, refl, sym, ap, ◌∙◌}
use Prim.Native.Nat.{ℕ, suc, ◌+◌, ◌-◌, ◌*◌, ◌/◌, ◌%◌, ◌^◌, ◌≤◌, ◌<◌, compare, Ordering}
use native.Mathlib.Nat.{le_of_eq, le_trans, lt_of_lt_of_le, mul-pos, mul_assoc, mul_comm, mul_left_comm, one-mul, add-mul, pow-suc, mul-le-mul_right, mul-lt-mul_of_pos_right, mul-div_cancel, mul-add-div_right, mul-add-mod_self_right, mod-eq_of_lt, div-eq_of_lt, not-le_of_lt}
use native.Mathlib.Omega.{arith}
use lib.Pow.{pow-add, pow_pos, pow_mono}
use lib.Dec.{lit≤, lit<}
use lib.Ieee.{Format, binary64, prec, low, size, nearest}
use lib.Ieee.Digits.{size-lt, size-le}
use lib.Ieee.Nearest.{closest}
use lib.Ieee.Order.{drop}
use lib.Ieee.Scale.{grid}
use Rattle.scan.proofs.Cases.{by_order}
use Rattle.scaling.specs.Nearest.{Halfway}
use Rattle.scaling.proofs.NearestLaws.{Cmp, cmp}

-- The nearest whole number at a tie.
closest_tie : (n u q : ℕ) → n / u ≡ q → n % u * 2 ≡ u → closest n u ≡ q + q % 2
closest_tie n u q d e = go (compare (n % u * 2) u) (cmp (n % u * 2) u)
  where
    go : (o : Ordering) → Cmp o (n % u * 2) u → nearest (n / u) o ≡ q + q % 2
    go Ordering.lt c = absurd (omega arith)
    go Ordering.eq c = rw d
    go Ordering.gt c = absurd (omega arith)

-- A number from 2^k up to, not including, 2^(k + 1) has k + 1 digits.
size_is : (m k : ℕ) → 2 ^ k ≤ m → m < 2 ^ suc k → size m ≡ suc k
size_is m k l h =
    let most : size m ≤ suc k = size-le m (suc k) h in
    by_order (suc k) (size m) (λ a. omega arith)
    (λ a. absurd (not-le_of_lt (lt_of_lt_of_le (size-lt m) (pow_mono (less (size m) k a))) l))
  where
    less : (s k : ℕ) → s < suc k → s ≤ k
    less s k a = omega arith

module _ (f : Format) (a b q j : ℕ) (B : 0 < b) (h : Halfway f a b q j) where
  abbrev middle : ℕ
  middle = (q * 2 + 1) * 2 ^ j

  abbrev n : ℕ
  n = a * 2 ^ low f

  whole : n / b ≡ middle
  whole = rw h.midway (mul-div_cancel middle B)

  low_end : 2 ^ (prec f + j) ≤ middle
  low_end = le_trans (le_of_eq (pow-add 2 (prec f) j)) (mul-le-mul_right (2 ^ j) (more (2 ^ prec f) q h.enough))
    where
      more : (p q : ℕ) → p ≤ q * 2 → p ≤ q * 2 + 1
      more p q e = omega arith

  high_end : middle < 2 ^ suc (prec f + j)
  high_end =
      lt_of_lt_of_le (mul-lt-mul_of_pos_right (less (2 ^ prec f) q h.few) (pow_pos j))
      (le_of_eq (turn (2 ^ prec f) (2 ^ j) ∙ ap (λ (x : ℕ). x * 2) (sym (pow-add 2 (prec f) j)) ∙ sym (pow-suc 2 (prec f + j))))
    where
      less : (p q : ℕ) → q < p → q * 2 + 1 < p * 2
      less p q e = omega arith

      turn : (x y : ℕ) → x * 2 * y ≡ x * y * 2
      turn x y = simp (mul_assoc, mul_comm, mul_left_comm)

  dropped : drop (prec f) n b ≡ suc j
  dropped = rw (whole, size_is middle (prec f + j) low_end high_end) (rest (prec f) j)
    where
      rest : (p j : ℕ) → suc (p + j) - p ≡ suc j
      rest p j = omega arith

  -- What is dropped of it is half of a step.
  abbrev half : ℕ
  half = b * 2 ^ j

  some : 0 < half
  some = mul-pos B (pow_pos j)

  step_is : b * 2 ^ suc j ≡ half * 2
  step_is = ap (λ (x : ℕ). b * x) (pow-suc 2 j) ∙ turn b (2 ^ j)
    where
      turn : (x y : ℕ) → x * (y * 2) ≡ x * y * 2
      turn x y = sym (mul_assoc x y 2)

  parts : n ≡ q * (half * 2) + half
  parts = h.midway ∙ turn q (2 ^ j) b
    where
      turn : (q y b : ℕ) → (q * 2 + 1) * y * b ≡ q * (b * y * 2) + b * y
      turn q y b = mul_assoc (q * 2 + 1) y b ∙ add-mul (q * 2) 1 (y * b) ∙ simp (mul_assoc, mul_comm, mul_left_comm, one-mul)

  quotient : n / (half * 2) ≡ q
  quotient = rw (parts, mul-add-div_right (twice half some) q half, div-eq_of_lt (below half some)) (none q)
    where
      twice : (x : ℕ) → 0 < x → 0 < x * 2
      twice x e = omega arith

      below : (x : ℕ) → 0 < x → x < x * 2
      below x e = omega arith

      none : (x : ℕ) → x + 0 ≡ x
      none x = omega arith

  remainder : n % (half * 2) * 2 ≡ half * 2
  remainder = rw (parts, mul-add-mod_self_right q (half * 2) half, mod-eq_of_lt (below half some))
    where
      below : (x : ℕ) → 0 < x → x < x * 2
      below x e = omega arith

  pub tie-even : grid f a b ≡ (q + q % 2) * 2 ^ suc j
  tie-even = rw (dropped, step_is, closest_tie n (half * 2) q quotient remainder)

-- There are such numbers inside the bounds: 1801439850948199 times 10 lies halfway between 18014398509481988 and 18014398509481992.
pub some_tie : Halfway binary64 (1801439850948199 * 10) 1 4503599627370497 1075
some_tie = record { enough = lit≤ tt; few = lit< tt; midway = refl }
