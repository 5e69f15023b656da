-- The bytes of numbers, as the library reads and writes them.
use Rattle.std.proofs.Common.{◌≡◌, ℕ, zero, suc, ◌/◌, ◌%◌, ◌^◌, ◌<◌, Bool, true, false, cond, eqb, List, [], ◌∷◌, ◌++◌, length, get_or, sym, refl, ap, ◌∙◌, arith, div-one, pow-suc}
use Rattle.std.specs.Int.{w16, w32, w64, byte_at, bytes_low_first, bytes_high_first, from_le_bytes, from_be_bytes}
use mathlib.Core.List.{append_assoc, append-nil}
use native.Mathlib.Nat.{div-div-eq-div-mul, pow-succ'}
use Rattle.raster.specs.Bytes.{high_first, low_first, number_of, high_bytes, low_bytes, bytes_of}
use Rattle.raster.proofs.RoundTrip.{length_bytes}
use Rattle.octets.proofs.Octets.{array_is}
use Rattle.shift.specs.Shifting.{shifted_bytes}
use Rattle.shift.specs.Adding.{added}
use Rattle.shift.specs.declared.shift.Shift.{Shift}
use Rattle.shift.specs.declared.shift.Addition.{Addition}

-- ---- Written

low_byte : (i n : ℕ) → byte_at i n ≡ n / 256 ^ i % 256
low_byte zero n = ap (λ (x : ℕ). x % 256) (sym (div-one n))
low_byte (suc i) n = refl

low_digits : (k i n : ℕ) → bytes_low_first i k n ≡ low_bytes k (n / 256 ^ i)
unfolding low_bytes
low_digits zero i n = refl
low_digits (suc k) i n =
    let next : n / 256 ^ suc i ≡ n / 256 ^ i / 256 =
    ap (λ (p : ℕ). n / p) (pow-suc 256 i) ∙ sym (div-div-eq-div-mul n (256 ^ i) 256)
    in
    (λ j. low_byte i n j ∷ (low_digits k (suc i) n ∙ ap (low_bytes k) next) j)

byte_above : (k n : ℕ) → byte_at (suc k) n ≡ byte_at k (n / 256)
byte_above zero n = refl
byte_above (suc k) n =
    ap (λ (x : ℕ). x % 256) (ap (λ (p : ℕ). n / p) (pow-succ' 256 (suc k)) ∙ sym (div-div-eq-div-mul n 256 (256 ^ suc k)))

last_byte : (k n : ℕ) → bytes_high_first (suc k) n ≡ bytes_high_first k (n / 256) ++ ((n % 256) ∷ [])
last_byte zero n = refl
last_byte (suc k) n = (λ j. byte_above k n j ∷ last_byte k n j)

high_digits : (k n : ℕ) (rest : List ℕ) → high_bytes k n rest ≡ bytes_high_first k n ++ rest
unfolding high_bytes
high_digits zero n rest = refl
high_digits (suc k) n rest =
    high_digits k (n / 256) ((n % 256) ∷ rest)
    ∙ sym (append_assoc (bytes_high_first k (n / 256)) ((n % 256) ∷ []) rest)
    ∙ ap (λ (l : List ℕ). l ++ rest) (sym (last_byte k n))

pub written_high : (w n asked : ℕ) → eqb asked 1 ≡ true → bytes_high_first w n ≡ bytes_of asked w n
unfolding bytes_of
written_high w n asked e = rw e (sym (high_digits w n [] ∙ append-nil (bytes_high_first w n)))

pub written_low : (w n asked : ℕ) → eqb asked 1 ≡ false → bytes_low_first 0 w n ≡ bytes_of asked w n
unfolding bytes_of
written_low w n asked e = rw e (low_digits w 0 n ∙ ap (low_bytes w) (div-one n))

-- Of one byte there is no order.
pub written_one : (n asked : ℕ) → n < 256 → n ∷ [] ≡ bytes_of asked 1 n
unfolding bytes_of high_bytes low_bytes
written_one n asked h = let e : n ≡ n % 256 = omega arith in ap (λ (x : ℕ). x ∷ []) e ∙ either (eqb asked 1)
  where
    either : (back : Bool) → (n % 256) ∷ [] ≡ cond back (high_bytes 1 n []) (low_bytes 1 n)
    either true = refl
    either false = refl

-- ---- Read

pub read_one : (l : List ℕ) (order : ℕ) → length l ≡ 1 → get_or l 0 0 ≡ number_of order l
unfolding number_of high_first low_first
read_one l order e = either (eqb order 1) ∙ ap (number_of order) (array_is 1 l e)
  where
    either : (back : Bool) → get_or l 0 0 ≡ cond back (high_first 0 (get_or l 0 0 ∷ [])) (low_first (get_or l 0 0 ∷ []))
    either true = omega arith
    either false = omega arith

pub low_first_8 : (l : List ℕ) → length l ≡ 8 → from_le_bytes w64 l ≡ low_first l
unfolding low_first
low_first_8 l h = omega arith ∙ ap low_first (array_is 8 l h)

module _ (l : List ℕ) (order : ℕ) where
  high_read : (v : ℕ) → eqb order 1 ≡ true → v ≡ high_first 0 l → v ≡ number_of order l
  unfolding number_of
  high_read v e q = rw e q

  low_read : (v : ℕ) → eqb order 1 ≡ false → v ≡ low_first l → v ≡ number_of order l
  unfolding number_of
  low_read v e q = rw e q

  pub read_high_2 : length l ≡ 2 → eqb order 1 ≡ true → from_be_bytes w16 l ≡ number_of order l
  unfolding high_first
  read_high_2 h e = high_read _ e (omega arith ∙ ap (high_first 0) (array_is 2 l h))

  pub read_low_2 : length l ≡ 2 → eqb order 1 ≡ false → from_le_bytes w16 l ≡ number_of order l
  unfolding low_first
  read_low_2 h e = low_read _ e (omega arith ∙ ap low_first (array_is 2 l h))

  pub read_high_4 : length l ≡ 4 → eqb order 1 ≡ true → from_be_bytes w32 l ≡ number_of order l
  unfolding high_first
  read_high_4 h e = high_read _ e (omega arith ∙ ap (high_first 0) (array_is 4 l h))

  pub read_low_4 : length l ≡ 4 → eqb order 1 ≡ false → from_le_bytes w32 l ≡ number_of order l
  unfolding low_first
  read_low_4 h e = low_read _ e (omega arith ∙ ap low_first (array_is 4 l h))

  pub read_high_8 : length l ≡ 8 → eqb order 1 ≡ true → from_be_bytes w64 l ≡ number_of order l
  unfolding high_first
  read_high_8 h e = high_read _ e (omega arith ∙ ap (high_first 0) (array_is 8 l h))

  pub read_low_8 : length l ≡ 8 → eqb order 1 ≡ false → from_le_bytes w64 l ≡ number_of order l
  read_low_8 h e = low_read _ e (low_first_8 l h)

-- ---- With an offset added

pub length_shifted : (s : Shift) (order asked : ℕ) {w : ℕ} (l : List ℕ) → length l ≡ w → length (shifted_bytes w s order asked l) ≡ w
unfolding shifted_bytes
length_shifted s order asked l e = length_bytes asked _ _

pub length_added : (a : Addition) {w : ℕ} (l : List ℕ) → length l ≡ w → length (added w a l) ≡ w
length_added a l e = length_shifted a.shift a.order a.asked l e
