-- Bits inverted, as sums and differences.
use Rattle.std.proofs.Common.{◌≡◌, ℕ, zero, suc, ◌+◌, ◌-◌, ◌*◌, ◌/◌, ◌%◌, ◌^◌, ◌<◌, Bool, true, false, ltb, sym, refl, ap, ◌∙◌, mod-eq_of_lt, suc-mul, pow-suc, arith, pow_pos, pow-add, ltb-false, ltb-true}
use lib.Bits.{bit_xor, xor_zero_r, xor_block, xor_add_and, and_mask}
use Rattle.shift.proofs.Sums.{flip_of, is_low, is_high}

-- Of a number v below m: with the bits of f inverted values stand in order, and with all others inverted in the order turned
-- round, from where the same bits lead back.
pub record Inverts (f m v : ℕ) : Type 0 where
  pub ordered : bit_xor v f ≡ (v + f) % m
  pub turned : bit_xor v (m - 1 - f) ≡ m - 1 - (v + f) % m
  pub back : bit_xor (m - 1 - v) (m - 1 - f) ≡ (v + f) % m

module _ (k : ℕ) where
  -- The k low bits, of a number that has no others.
  ones : (r : ℕ) → r < 2 ^ k → bit_xor r (2 ^ k - 1) ≡ 2 ^ k - 1 - r
  ones r h = omega (arith, xor_add_and r (2 ^ k - 1), and_mask r k ∙ mod-eq_of_lt h)

  -- The bit above them, and the k low bits, of any number.
  one_bit : (b r v : ℕ) → v ≡ b * 2 ^ k + r → r < 2 ^ k → bit_xor v (2 ^ k) ≡ bit_xor b 1 * 2 ^ k + r
  one_bit b r v e h =
      let i : 2 ^ k ≡ 1 * 2 ^ k + 0 = omega arith in
      (λ j. bit_xor (e j) (i j)) ∙ xor_block k b 1 r 0 h (pow_pos k) ∙ ap (λ (x : ℕ). bit_xor b 1 * 2 ^ k + x) (xor_zero_r r)

  low_bits : (b r v f : ℕ) → v ≡ b * 2 ^ k + r → f ≡ 2 ^ k - 1 → r < 2 ^ k → bit_xor v f ≡ b * 2 ^ k + (2 ^ k - 1 - r)
  low_bits b r v f e i h =
      let p = pow_pos k in
      let z : f ≡ 0 * 2 ^ k + (2 ^ k - 1) = omega arith in
      (λ j. bit_xor (e j) (z j)) ∙ xor_block k b 0 r (2 ^ k - 1) h (omega arith) ∙ (λ j. xor_zero_r b j * 2 ^ k + ones r h j)

  unsigned : (v : ℕ) → v < 2 ^ k → Inverts 0 (2 ^ k) v
  unsigned v h =
      let m = 2 ^ k in
      let p : v ≡ (v + 0) % m = is_low m (v + 0) v (omega arith) (omega arith) in
      record {
        ordered = xor_zero_r v ∙ p;
        turned = low_bits 0 v v (m - 1 - 0) (omega arith) (omega arith) h ∙ omega arith;
        back = low_bits 0 (m - 1 - v) (m - 1 - v) (m - 1 - 0) (omega arith) (omega arith) (omega arith) ∙ omega arith;
      }

  signed : (v : ℕ) (t : Bool) → ltb v (2 ^ k) ≡ t → v < 2 * 2 ^ k → Inverts (2 ^ k) (2 * 2 ^ k) v
  signed v true e h =
      let j = ltb-true v (2 ^ k) e in
      let m = 2 * 2 ^ k in
      let p : v + 2 ^ k ≡ (v + 2 ^ k) % m = is_low m (v + 2 ^ k) (v + 2 ^ k) (omega arith) refl in
      record {
        ordered = one_bit 0 v v (omega arith) j ∙ omega arith;
        turned = low_bits 0 v v (m - 1 - 2 ^ k) (omega arith) (omega arith) j ∙ omega arith;
        back = low_bits 1 (2 ^ k - 1 - v) (m - 1 - v) (m - 1 - 2 ^ k) (omega arith) (omega arith) (omega arith) ∙ omega arith;
      }
  signed v false e h =
      let j = ltb-false v (2 ^ k) e in
      let m = 2 * 2 ^ k in
      let p : v - 2 ^ k ≡ (v + 2 ^ k) % m = is_high m (v + 2 ^ k) (v - 2 ^ k) (omega arith) (omega arith) (omega arith) in
      record {
        ordered = one_bit 1 (v - 2 ^ k) v (omega arith) (omega arith) ∙ omega arith;
        turned = low_bits 1 (v - 2 ^ k) v (m - 1 - 2 ^ k) (omega arith) (omega arith) (omega arith) ∙ omega arith;
        back = low_bits 0 (m - 1 - v) (m - 1 - v) (m - 1 - 2 ^ k) (omega arith) (omega arith) (omega arith) ∙ omega arith;
      }

-- ---- Over the width

pub as_bits : (w : ℕ) → 256 ^ w ≡ 2 ^ (w * 8)
as_bits zero = refl
as_bits (suc w) = pow-suc 256 w ∙ ap (λ (x : ℕ). x * 256) (as_bits w) ∙ sym (pow-add 2 (w * 8) 8) ∙ ap (λ (k : ℕ). 2 ^ k) (sym (suc-mul w 8))

pub inverts : (s : Bool) (w v : ℕ) → 0 < w → v < 256 ^ w → Inverts (flip_of s w) (256 ^ w) v
inverts false w v some h = rw (as_bits w) (unsigned (w * 8) v (omega (arith, as_bits w)))
inverts true zero v some h = absurd (omega arith)
inverts true (suc w) v some h =
    let p = 2 ^ (w * 8 + 7) in
    let m : 256 ^ suc w ≡ 2 * p = omega (arith, pow-suc 256 w, as_bits w, pow-add 2 (w * 8) 7) in
    let d : 2 * p / 2 ≡ p = omega arith in
    rw (m, d) (signed (w * 8 + 7) v (ltb v p) refl (omega arith))
