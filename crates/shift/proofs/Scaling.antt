-- A `Shift` on numbers of w bytes, and on elements at the high end of 64 bits.
use Rattle.std.proofs.Common.{◌≡◌, ℕ, suc, ◌+◌, ◌-◌, ◌*◌, ◌/◌, ◌%◌, ◌^◌, ◌<◌, ◌≤◌, min, Bool, cond, ℤ, pos, negsuc, nat_abs, sym, ap, ◌∙◌, mod-lt, mod-eq_of_lt, mul_comm, mul-div_cancel, arith, pow-add, le-ltb}
use native.Mathlib.Nat.{mul-sub, one-le-pow}
use lib.Bits.{bit_xor}
use lib.Signed.{lt_z}
use Rattle.shift.specs.Shifting.{shift_by, weight, integer, Shifts}
use Rattle.shift.specs.declared.shift.Shift.{Shift}
use Rattle.shift.proofs.Inverting.{inverts}
use Rattle.shift.proofs.Sums.{flip_of, offset_moved}

-- ---- Multiples of k

pub sub_times : (a b k : ℕ) → a * k - b * k ≡ (a - b) * k
sub_times a b k = (λ j. mul_comm a k j - mul_comm b k j) ∙ sym (mul-sub k a b) ∙ mul_comm k (a - b)

-- What is added to a number turned round is taken away from it.
turned-sum : (t n c b : ℕ) → c ≡ min (suc n) t → b ≤ t → min (t - c) (t - b) + c ≡ t - (b - suc n)
turned-sum t n c b e h = omega arith

-- ---- Over the width

module _ (s : Bool) (w : ℕ) (some : 0 < w) (few : w ≤ 8) where
  pub whole : 256 ^ w * weight w ≡ 2 ^ 64
  whole = let e : w + (8 - w) ≡ 8 = omega arith in sym (pow-add 256 w (8 - w)) ∙ ap (λ (k : ℕ). 256 ^ k) e

  some_values : 0 < 256 ^ w
  some_values = one-le-pow w 256 (omega arith)

  some_weight : 0 < weight w
  some_weight = one-le-pow (8 - w) 256 (omega arith)

  -- ---- The steps that add an offset

  share : (a b : ℕ) → a ≡ b * weight w → a / weight w ≡ b
  share a b e = ap (λ (x : ℕ). x / weight w) e ∙ mul-div_cancel b some_weight

  -- Once `high` and `delta` are multiples of the weight, and it is known what the first inversion gives, and the sum.
  steps : (r : Shift) (i c v b x : ℕ) → r.inverted / weight w ≡ i → r.high ≡ (256 ^ w - 1 - c) * weight w → r.delta ≡ c * weight w
      → bit_xor v i ≡ b → min (256 ^ w - 1 - c) b + c ≡ x → x < 256 ^ w → shift_by w r v ≡ bit_xor x i
  unfolding shift_by
  steps r i c v b x ei eh ed eb ex h =
      let m = 256 ^ w in
      (λ j. bit_xor ((min (share r.high (m - 1 - c) eh j) (bit_xor v (ei j)) + share r.delta c ed j) % m) (ei j))
      ∙ ap (λ (y : ℕ). bit_xor y i) (ap (λ (y : ℕ). (min (m - 1 - c) y + c) % m) eb ∙ ap (λ (y : ℕ). y % m) ex ∙ mod-eq_of_lt h)

  -- An offset from 0 on is added to values in order, and one below 0 to values in the order turned round.
  pub adds : (offset : ℤ) (c : ℕ) (r : Shift) → c ≡ min (nat_abs offset) (256 ^ w - 1)
      → r.inverted / weight w ≡ cond (lt_z offset (pos 0)) (256 ^ w - 1 - flip_of s w) (flip_of s w)
      → r.high ≡ (256 ^ w - 1 - c) * weight w → r.delta ≡ c * weight w → Shifts (integer s) w offset r
  adds (pos n) c r ec ei eh ed v h =
      let m = 256 ^ w in
      let f = flip_of s w in
      let b = (v + f) % m in
      let lt : b < m = mod-lt (v + f) some_values in
      let x = min (m - 1) (b + n) in
      let below : x < m = omega arith in
      steps r f c v b x (ei ∙ ap (λ (t : Bool). cond t (m - 1 - f) f) (le-ltb n 0 (omega arith))) eh ed
      (inverts s w v some h).ordered (omega arith) below
      ∙ (inverts s w x some below).ordered ∙ sym (offset_moved s w (pos n) v some h)
  adds (negsuc n) c r ec ei eh ed v h =
      let m = 256 ^ w in
      let f = flip_of s w in
      let b = (v + f) % m in
      let lt : b < m = mod-lt (v + f) some_values in
      let x = b - suc n in
      let below : x < m = omega arith in
      steps r (m - 1 - f) c v (m - 1 - b) (m - 1 - x) ei eh ed (inverts s w v some h).turned
      (turned-sum (m - 1) n c b ec (omega arith)) (omega (arith, some_values))
      ∙ (inverts s w x some below).back ∙ sym (offset_moved s w (negsuc n) v some h)
