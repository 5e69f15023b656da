-- A sum set to the nearest value of its type is a few steps on numbers below M, with no sign.
use Rattle.std.proofs.Common.{◌≡◌, ℕ, suc, ◌+◌, ◌-◌, ◌*◌, ◌%◌, ◌^◌, ◌<◌, ◌≤◌, min, Bool, true, false, cond, ltb, ℤ, pos, negsuc, ◌+ℤ◌, nat_abs, sym, refl, ap, ◌∙◌, add-zero, mod-eq_of_lt, arith, ltb-false, ltb-true, le-ltb, lt-ltb}
use native.Mathlib.Nat.{mod-eq-sub-mod}
use Rattle.raster.specs.Element.{half, bits_of, nearest, offset_bits}
use Rattle.raster.proofs.RoundTrip.{two_halves}
use Rattle.shift.specs.Shifting.{integer}

-- ---- The nearest value

from_zero : (m : ℕ) (x : ℕ) (t : Bool) → ltb m x ≡ t → nat_abs (nearest (pos 0) (pos m) (pos x)) ≡ min m x
unfolding nearest
from_zero m x true e = rw (le-ltb x 0 (omega arith), e) (omega (arith, ltb-true m x e))
from_zero m x false e = rw (le-ltb x 0 (omega arith), e) (omega (arith, ltb-false m x e))

up_most : (m : ℕ) (x : ℕ) (t : Bool) → ltb m x ≡ t → nearest (negsuc m) (pos m) (pos x) ≡ pos (min m x)
unfolding nearest
up_most m x true e = rw e (ap pos (omega (arith, ltb-true m x e)))
up_most m x false e = rw e (ap pos (omega (arith, ltb-false m x e)))

down_most : (m : ℕ) (x : ℕ) (t : Bool) → ltb m x ≡ t → nearest (negsuc m) (pos m) (negsuc x) ≡ negsuc (min m x)
unfolding nearest
down_most m x true e = rw e (ap negsuc (omega (arith, ltb-true m x e)))
down_most m x false e = rw e (ap negsuc (omega (arith, ltb-false m x e)))

-- ---- An offset added to a number from 0 to m, and set to the nearest

abbrev pub moved : ℕ → ℤ → ℕ → ℕ
moved m (pos n) b = min m (b + n)
moved m (negsuc n) b = b - suc n

pub moved_below : (m k : ℕ) (offset : ℤ) (b : ℕ) → b ≤ m → m < k → moved m offset b < k
moved_below m k (pos n) b h j = omega arith
moved_below m k (negsuc n) b h j = omega arith

minus : (m v n : ℕ) (t : Bool) → ltb v (suc n) ≡ t → v ≤ m → nat_abs (nearest (pos 0) (pos m) (pos v +ℤ negsuc n)) ≡ v - suc n
unfolding nearest
minus m v n true e h = rw e (omega (arith, ltb-true v (suc n) e))
minus m v n false e h = rw (e, le-ltb (v - suc n) 0 (omega arith), le-ltb m (v - suc n) (omega arith))

unsigned_moved : (m : ℕ) (offset : ℤ) (v : ℕ) → v ≤ m → nat_abs (nearest (pos 0) (pos m) (pos v +ℤ offset)) ≡ moved m offset v
unsigned_moved m (pos n) v h = from_zero m (v + n) (ltb m (v + n)) refl
unsigned_moved m (negsuc n) v h = minus m v n (ltb v (suc n)) refl h

-- ---- The same of signed numbers: bits v below 2 h stand in the order of their values once h is added, modulo 2 h

pub is_low : (m x r : ℕ) → x < m → x ≡ r → r ≡ x % m
is_low m x r h e = sym (mod-eq_of_lt h ∙ e)

pub is_high : (m x r : ℕ) → m ≤ x → x - m < m → x - m ≡ r → r ≡ x % m
is_high m x r h k e = sym (mod-eq-sub-mod h ∙ mod-eq_of_lt k ∙ e)

minus_up : (a b : ℕ) → suc b ≤ a → pos a +ℤ negsuc b ≡ pos (a - suc b)
minus_up a b h = rw (le-ltb a (suc b) h)

minus_down : (a b : ℕ) → a < suc b → pos a +ℤ negsuc b ≡ negsuc (b - a)
minus_down a b h = rw (lt-ltb a (suc b) h) (ap negsuc (omega arith))

plus_up : (a b : ℕ) → suc a ≤ b → negsuc a +ℤ pos b ≡ pos (b - suc a)
plus_up a b h = rw (le-ltb b (suc a) h)

plus_down : (a b : ℕ) → b < suc a → negsuc a +ℤ pos b ≡ negsuc (a - b)
plus_down a b h = rw (lt-ltb b (suc a) h) (ap negsuc (omega arith))

-- The bits of the nearest value, by the sign of the sum.
bits_up : (h : ℕ) (z : ℤ) (x : ℕ) → z ≡ pos x → bits_of h (nearest (negsuc (h - 1)) (pos (h - 1)) z) ≡ min (h - 1) x
bits_up h z x e =
    ap (λ (y : ℤ). bits_of h (nearest (negsuc (h - 1)) (pos (h - 1)) y)) e ∙ ap (bits_of h) (up_most (h - 1) x (ltb (h - 1) x) refl)

bits_down : (h : ℕ) (z : ℤ) (x : ℕ) → z ≡ negsuc x
    → bits_of h (nearest (negsuc (h - 1)) (pos (h - 1)) z) ≡ 2 * h - suc (min (h - 1) x)
bits_down h z x e =
    ap (λ (y : ℤ). bits_of h (nearest (negsuc (h - 1)) (pos (h - 1)) y)) e ∙ ap (bits_of h) (down_most (h - 1) x (ltb (h - 1) x) refl)

top : (h x : ℕ) → 0 < h → h ≤ x → min (h - 1) (x - h) ≡ (min (2 * h - 1) x + h) % (2 * h)
top h x some k = is_high (2 * h) (min (2 * h - 1) x + h) _ (omega arith) (omega arith) (omega arith)

bottom : (h x : ℕ) → x < h → 2 * h - suc (min (h - 1) (h - 1 - x)) ≡ (min (2 * h - 1) x + h) % (2 * h)
bottom h x k = is_low (2 * h) (min (2 * h - 1) x + h) _ (omega arith) (omega arith)

-- A value from 0 on, and a value below 0: v + h, modulo 2 h, is v + h, or v - h.
module _ (h v : ℕ) where
  least_minus : (n : ℕ) (t : Bool) → ltb v (suc n) ≡ t → v < h
      → bits_of h (nearest (negsuc (h - 1)) (pos (h - 1)) (pos v +ℤ negsuc n)) ≡ (v + h - suc n + h) % (2 * h)
  least_minus n true e k =
      let j = ltb-true v (suc n) e in
      bits_down h _ (n - v) (minus_down v n j) ∙ is_low (2 * h) (v + h - suc n + h) _ (omega arith) (omega arith)
  least_minus n false e k =
      let j = ltb-false v (suc n) e in
      bits_up h _ (v - suc n) (minus_up v n j) ∙ is_high (2 * h) (v + h - suc n + h) _ (omega arith) (omega arith) (omega arith)

  from_least : (offset : ℤ) → v < h
      → bits_of h (nearest (negsuc (h - 1)) (pos (h - 1)) (pos v +ℤ offset)) ≡ (moved (2 * h - 1) offset (v + h) + h) % (2 * h)
  from_least (pos n) k =
      bits_up h _ (v + n) refl ∙ is_high (2 * h) (min (2 * h - 1) (v + h + n) + h) _ (omega arith) (omega arith) (omega arith)
  from_least (negsuc n) k = least_minus n (ltb v (suc n)) refl k

  below_plus : (n : ℕ) (t : Bool) → ltb n (suc (2 * h - suc v)) ≡ t → h ≤ v → v < 2 * h
      → bits_of h (nearest (negsuc (h - 1)) (pos (h - 1)) (negsuc (2 * h - suc v) +ℤ pos n))
      ≡ (min (2 * h - 1) (v - h + n) + h) % (2 * h)
  below_plus n true e k j =
      let i = ltb-true n (suc (2 * h - suc v)) e in
      let d : 2 * h - suc v - n ≡ h - 1 - (v - h + n) = omega arith in
      let b : v - h + n < h = omega arith in
      bits_down h _ (2 * h - suc v - n) (plus_down (2 * h - suc v) n i)
      ∙ ap (λ (x : ℕ). 2 * h - suc (min (h - 1) x)) d ∙ bottom h (v - h + n) b
  below_plus n false e k j =
      let i = ltb-false n (suc (2 * h - suc v)) e in
      let d : n - suc (2 * h - suc v) ≡ v - h + n - h = omega arith in
      let b : h ≤ v - h + n = omega arith in
      bits_up h _ (n - suc (2 * h - suc v)) (plus_up (2 * h - suc v) n i) ∙ ap (min (h - 1)) d ∙ top h (v - h + n) (omega arith) b

  from_below : (offset : ℤ) → h ≤ v → v < 2 * h
      → bits_of h (nearest (negsuc (h - 1)) (pos (h - 1)) (negsuc (2 * h - suc v) +ℤ offset))
      ≡ (moved (2 * h - 1) offset (v - h) + h) % (2 * h)
  from_below (pos n) k j = below_plus n (ltb n (suc (2 * h - suc v))) refl k j
  from_below (negsuc n) k j =
      bits_down h _ (suc (2 * h - suc v + n)) refl ∙ is_low (2 * h) (v - h - suc n + h) _ (omega arith) (omega arith)

  signed_moved : (offset : ℤ) (t : Bool) → ltb v h ≡ t → v < 2 * h
      → bits_of h (nearest (negsuc (h - 1)) (pos (h - 1)) (cond t (pos v) (negsuc (2 * h - suc v)) +ℤ offset))
      ≡ (moved (2 * h - 1) offset ((v + h) % (2 * h)) + h) % (2 * h)
  signed_moved offset true e k =
      let j = ltb-true v h e in
      from_least offset j
      ∙ ap (λ (b : ℕ). (moved (2 * h - 1) offset b + h) % (2 * h)) (is_low (2 * h) (v + h) (v + h) (omega arith) refl)
  signed_moved offset false e k =
      let j = ltb-false v h e in
      from_below offset j k
      ∙ ap (λ (b : ℕ). (moved (2 * h - 1) offset b + h) % (2 * h))
      (is_high (2 * h) (v + h) (v - h) (omega arith) (omega arith) (omega arith))

-- ---- Both classes, over the width

-- What is added so that values stand in order.
abbrev pub flip_of : Bool → ℕ → ℕ
flip_of s w = cond s (half w) 0

pub offset_moved : (s : Bool) (w : ℕ) (offset : ℤ) (v : ℕ) → 0 < w → v < 256 ^ w
    → offset_bits (integer s) w offset v
    ≡ (moved (256 ^ w - 1) offset ((v + flip_of s w) % 256 ^ w) + flip_of s w) % 256 ^ w
unfolding offset_bits
offset_moved true w offset v some h =
    let e = two_halves w some in
    signed_moved (half w) v offset (ltb v (half w)) refl (omega arith)
    ∙ ap (λ (m : ℕ). (moved (m - 1) offset ((v + half w) % m) + half w) % m) e
offset_moved false w offset v some h =
    let m = 256 ^ w in
    unsigned_moved (m - 1) offset v (omega arith)
    ∙ is_low m (moved (m - 1) offset v + 0) (moved (m - 1) offset v)
    (omega (arith, moved_below (m - 1) m offset v (omega arith) (omega arith))) (add-zero (moved (m - 1) offset v))
    ∙ (λ j. (moved (m - 1) offset (is_low m (v + 0) v (omega arith) (add-zero v) j) + 0) % m)
