-- At the high end of 64 bits a shift gives the same bytes.
use Rattle.std.proofs.Common.{◌≡◌, ℕ, zero, suc, ◌+◌, ◌-◌, ◌*◌, ◌/◌, ◌%◌, ◌^◌, ◌<◌, ◌≤◌, min, Bool, true, false, cond, eqb, ltb, List, [], ◌∷◌, ◌++◌, reverse, length, get_or, replicate, sym, refl, ap, ◌∙◌, subst, mod-lt, mul_assoc, mul-lt-mul_of_pos_right, suc-add, zero-add, mul-one, div-one, le-div_iff_mul-le, div-mul-le_self, mul-div_cancel, arith, ltb-false, ltb-true}
use mathlib.Core.List.{reverse-append, reverse-reverse}
use native.Mathlib.Nat.{div-div-eq-div-mul, pow-succ', add-mul-div_right, one-le-pow}
use lib.Arith.{digits_div, mod-mul}
use lib.Bits.{bit_xor, xor_shr}
use lib.ListN.{length-reverse}
use Rattle.raster.specs.Bytes.{high_first, low_first, number_of, low_bytes, bytes_of}
use Rattle.raster.specs.Strided.{Octets, turned}
use Rattle.raster.proofs.Elements.{orders_agree}
use Rattle.raster.proofs.RoundTrip.{octets_turned, low_bound, low_length, bytes_turned}
use Rattle.shift.specs.HighEnd.{shift_high, swapped, aligned_from, restored_to}
use Rattle.shift.specs.Shifting.{shift_by, weight, shifted_bytes}
use Rattle.shift.specs.declared.shift.Shift.{Shift}
use Rattle.shift.proofs.Inverting.{as_bits}
use Rattle.shift.proofs.Scaling.{whole}

-- ---- Quotients by k

module _ (k : ℕ) (some : 0 < k) where
  div_below : (a b : ℕ) → a ≤ b → a / k ≤ b / k
  div_below a b h = let j = div-mul-le_self a k in (le-div_iff_mul-le {k = k} {x = a / k} {y = b} some).1 (omega arith)

  min_div : (a b : ℕ) (t : Bool) → ltb a b ≡ t → min a b / k ≡ min (a / k) (b / k)
  min_div a b true e =
      let h = ltb-true a b e in
      let m : min a b ≡ a = omega arith in
      rw m (omega (arith, div_below a b (omega arith)))
  min_div a b false e =
      let h = ltb-false a b e in
      let m : min a b ≡ b = omega arith in
      rw m (omega (arith, div_below b a h))

  mod_div : (x m : ℕ) → 0 < m → x % (m * k) / k ≡ x / k % m
  mod_div x m h = ap (λ (y : ℕ). y / k) (mod-mul x h some) ∙ digits_div (x / k % m) (mod-lt x some)

-- ---- Over the width

module _ (w : ℕ) (some : 0 < w) (few : w ≤ 8) where
  some_values : 0 < 256 ^ w
  some_values = one-le-pow w 256 (omega arith)

  some_weight : 0 < weight w
  some_weight = one-le-pow (8 - w) 256 (omega arith)

  top_mod : (a : ℕ) → a % 2 ^ 64 / weight w ≡ a / weight w % 256 ^ w
  top_mod a = ap (λ (x : ℕ). a % x / weight w) (sym (whole false w some few)) ∙ mod_div (weight w) some_weight a (256 ^ w) some_values

  top_xor : (a b : ℕ) → bit_xor a b / weight w ≡ bit_xor (a / weight w) (b / weight w)
  top_xor a b =
      let k = (8 - w) * 8 in
      let e = as_bits (8 - w) in
      ap (λ (x : ℕ). bit_xor a b / x) e ∙ xor_shr a b k ∙ sym (λ j. bit_xor (a / e j) (b / e j))

  -- At the high end the same steps are made.
  pub high_end : (r : Shift) (n : ℕ) → shift_high (weight w) r (n * weight w) / weight w ≡ shift_by w r n
  unfolding shift_by shift_high
  high_end r n =
      let k = weight w in
      let h = some_weight in
      let i = r.inverted in
      let b = bit_xor (n * k) i in
      let c = min r.high b in
      top_xor ((c + r.delta / k * k) % 2 ^ 64) i
      ∙ ap (λ (y : ℕ). bit_xor y (i / k))
      (top_mod (c + r.delta / k * k)
      ∙ ap (λ (y : ℕ). y % 256 ^ w)
      (add-mul-div_right c (r.delta / k) h
      ∙ ap (λ (y : ℕ). y + r.delta / k)
      (min_div k h r.high b (ltb r.high b) refl
      ∙ ap (min (r.high / k)) (top_xor (n * k) i ∙ ap (λ (y : ℕ). bit_xor y (i / k)) (mul-div_cancel n h)))))

-- ---- The bytes

low_zeros : (k : ℕ) → low_bytes k 0 ≡ replicate k 0
unfolding low_bytes
low_zeros zero = refl
low_zeros (suc k) = ap (λ (l : List ℕ). 0 ∷ l) (low_zeros k)

-- The bytes of a number of fewer bytes.
low_padded : (l : List ℕ) (k : ℕ) → Octets l → low_bytes (length l + k) (low_first l) ≡ l ++ replicate k 0
unfolding low_first low_bytes
low_padded [] k h = ap (λ (n : ℕ). low_bytes n 0) (zero-add k) ∙ low_zeros k
low_padded (b ∷ l) k (h, more) =
    let m : (low_first l * 256 + b) % 256 ≡ b = omega arith in
    let d : (low_first l * 256 + b) / 256 ≡ low_first l = omega arith in
    ap (λ (n : ℕ). low_bytes n (low_first l * 256 + b)) (suc-add (length l) k)
    ∙ (λ j. m j ∷ low_bytes (length l + k) (d j)) ∙ ap (λ (r : List ℕ). b ∷ r) (low_padded l k more)

low_prefix : (x y : List ℕ) → Octets x → low_bytes (length x) (low_first (x ++ y)) ≡ x
unfolding low_first low_bytes
low_prefix [] y h = refl
low_prefix (b ∷ x) y (h, more) =
    let m : (low_first (x ++ y) * 256 + b) % 256 ≡ b = omega arith in
    let d : (low_first (x ++ y) * 256 + b) / 256 ≡ low_first (x ++ y) = omega arith in
    (λ j. m j ∷ low_bytes (length x) (d j)) ∙ ap (λ (r : List ℕ). b ∷ r) (low_prefix x y more)

low_split : (k w n : ℕ) → low_bytes (k + w) n ≡ low_bytes k n ++ low_bytes w (n / 256 ^ k)
unfolding low_bytes
low_split zero w n = (λ j. low_bytes (zero-add w j) (sym (div-one n) j))
low_split (suc k) w n =
    ap (λ (m : ℕ). low_bytes m n) (suc-add k w)
    ∙ ap (λ (l : List ℕ). (n % 256) ∷ l) (low_split k w (n / 256))
    ∙ ap (λ (m : ℕ). (n % 256) ∷ (low_bytes k (n / 256) ++ low_bytes w m))
    (div-div-eq-div-mul n 256 (256 ^ k) ∙ ap (λ (p : ℕ). n / p) (sym (pow-succ' 256 k)))

-- The elements of an array of bytes.
pub octets_of : (l : List ℕ) → ((i : ℕ) → get_or l i 0 < 256) → Octets l
octets_of [] h = tt
octets_of (b ∷ l) h = (h 0, octets_of l (λ i. h (suc i)))

octets_low : (w n : ℕ) → Octets (low_bytes w n)
unfolding low_bytes
octets_low zero n = tt
octets_low (suc w) n = (mod-lt n (omega arith), octets_low w (n / 256))

high_append : (a : ℕ) (l m : List ℕ) → high_first a (l ++ m) ≡ high_first (high_first a l) m
unfolding high_first
high_append a [] m = refl
high_append a (b ∷ l) m = high_append (a * 256 + b) l m

high_zeros : (a k : ℕ) → high_first a (replicate k 0) ≡ a * 256 ^ k
unfolding high_first
high_zeros a zero = sym (mul-one a)
high_zeros a (suc k) =
    high_zeros (a * 256 + 0) k
    ∙ ap (λ (x : ℕ). x * 256 ^ k) (add_nothing a) ∙ mul_assoc a 256 (256 ^ k) ∙ ap (λ (x : ℕ). a * x) (sym (pow-succ' 256 k))
  where
    add_nothing : (a : ℕ) → a * 256 + 0 ≡ a * 256
    add_nothing a = omega arith

high_of : (l : List ℕ) → low_first (reverse l) ≡ high_first 0 l
high_of l = orders_agree (reverse l) ∙ ap (high_first 0) (reverse-reverse l)

-- High byte first: swapped, an element stands at the high end.
swapped_element : (l : List ℕ) (k : ℕ) → Octets l → length l + k ≡ 8 → swapped (low_first l) ≡ high_first 0 l * 256 ^ k
unfolding swapped
swapped_element l k h e =
    ap (λ (n : ℕ). low_first (reverse (low_bytes n (low_first l)))) (sym e)
    ∙ ap (λ (m : List ℕ). low_first (reverse m)) (low_padded l k h)
    ∙ high_of (l ++ replicate k 0) ∙ high_append 0 l (replicate k 0) ∙ high_zeros (high_first 0 l) k

swapped_back : (w k n : ℕ) → k + w ≡ 8 → low_bytes w (swapped n) ≡ reverse (low_bytes w (n / 256 ^ k))
unfolding swapped
swapped_back w k n e =
    let b = low_bytes w (n / 256 ^ k) in
    let x = reverse b in
    let m : length x ≡ w = length-reverse b ∙ low_length w (n / 256 ^ k) in
    ap (λ (j : ℕ). low_bytes w (low_first (reverse (low_bytes j n)))) (sym e)
    ∙ ap (λ (l : List ℕ). low_bytes w (low_first (reverse l))) (low_split k w n)
    ∙ ap (λ (l : List ℕ). low_bytes w (low_first l)) (reverse-append (low_bytes k n) b)
    ∙ ap (λ (j : ℕ). low_bytes j (low_first (x ++ reverse (low_bytes k n)))) (sym m)
    ∙ low_prefix x (reverse (low_bytes k n)) (octets_turned true b (octets_low w (n / 256 ^ k)))

-- ---- Either order, over the width

aligned_by : (back : Bool) (w : ℕ) (l : List ℕ) → Octets l → length l ≡ w → w ≤ 8
    → cond back (swapped (low_first l)) (low_first l * weight w) ≡ cond back (high_first 0 l) (low_first l) * weight w
aligned_by true w l h e k = swapped_element l (8 - w) h (omega arith)
aligned_by false w l h e k = refl

restored_by : (back : Bool) (w n : ℕ) → w ≤ 8
    → low_bytes w (cond back (swapped n) (n / weight w)) ≡ turned back (low_bytes w (n / weight w))
restored_by true w n k = swapped_back w (8 - w) n (omega arith)
restored_by false w n k = refl

pub shifted_is : (w : ℕ) (s : Shift) (order asked : ℕ) (l : List ℕ) → 0 < w → w ≤ 8 → Octets l → length l ≡ w
    → low_bytes w (restored_to asked (weight w) (shift_high (weight w) s (aligned_from order (weight w) (low_first l)))) ≡ shifted_bytes w s order asked l
unfolding aligned_from restored_to shifted_bytes number_of
shifted_is w s order asked l some k h e =
    let shift = shift_high (weight w) s in
    let n = cond (eqb order 1) (high_first 0 l) (low_first l) in
    ap (λ (x : ℕ). low_bytes w (cond (eqb asked 1) (swapped (shift x)) (shift x / weight w))) (aligned_by (eqb order 1) w l h e k)
    ∙ restored_by (eqb asked 1) w (shift (n * weight w)) k
    ∙ ap (λ (x : ℕ). turned (eqb asked 1) (low_bytes w x)) (high_end w some k s n)
    ∙ sym (bytes_turned asked w (shift_by w s n))

-- ---- Eight bytes, whose weight is 1

pub aligned_8 : (order : ℕ) (l : List ℕ) → ((i : ℕ) → get_or l i 0 < 256) → length l ≡ 8
    → number_of order l ≡ aligned_from order 1 (low_first l)
unfolding aligned_from number_of
aligned_8 order l h e =
    sym (mul-one (cond (eqb order 1) (high_first 0 l) (low_first l)))
    ∙ sym (aligned_by (eqb order 1) 8 l (octets_of l h) e (omega arith))

pub shifted_8 : (s : Shift) (n : ℕ) → shift_high 1 s n ≡ shift_by 8 s n
shifted_8 s n =
    sym (div-one (shift_high 1 s n)) ∙ ap (λ (x : ℕ). shift_high 1 s x / 1) (sym (mul-one n)) ∙ high_end 8 (omega arith) (omega arith) s n

pub restored_8 : (asked n : ℕ) → bytes_of asked 8 n ≡ low_bytes 8 (restored_to asked 1 n)
unfolding restored_to
restored_8 asked n =
    bytes_turned asked 8 n
    ∙ ap (λ (x : ℕ). turned (eqb asked 1) (low_bytes 8 x)) (sym (div-one n))
    ∙ sym (restored_by (eqb asked 1) 8 n (omega arith))

-- ---- An element at the high end fits

pub element_fits : (w : ℕ) (l : List ℕ) (x : ℕ) → 0 < w → w ≤ 8 → length l ≡ w → (x ≡ low_first l) × Octets l → x * weight w < 2 ^ 64
element_fits w l x some few e (q, h) =
    let b : x < 256 ^ w = subst (λ (n : ℕ). x < 256 ^ n) e (rw q (low_bound l h)) in
    subst (λ (t : ℕ). x * weight w < t) (whole false w some few) (mul-lt-mul_of_pos_right b (one-le-pow (8 - w) 256 (omega arith)))
