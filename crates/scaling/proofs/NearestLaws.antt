-- `round` gives a nearest value of the format.
use mathlib.Core.Path.{◌≡◌, sym, ap, ◌∙◌, subst}
use mathlib.Core.Bool.{Bool, false, not, ◌&&◌}
use Prim.Native.Nat.{ℕ, zero, suc, ◌+◌, ◌-◌, ◌*◌, ◌/◌, ◌%◌, ◌^◌, ◌≤◌, ◌<◌, compare, Ordering}
use native.Mathlib.Nat.{le_trans, le_of_eq, le_of_lt, not-le_of_lt, mul-one, zero-mul, suc-mul, mul_comm, mul_assoc, mul_left_comm, mul_right_comm, mul-pos, mul-sub, add-mul, mul-le-mul_right, le_of_mul-le-mul_right, div-add-mod', mod-lt, le-div_iff_mul-le}
use native.Mathlib.Omega.{arith}
use mathlib.Core.Logic.{◌⊎◌, inl, inr}
use lib.Dec.{T, is_le, compare_is_eq, eqb, leb, ltb, leb→le, nleb→lt, ltb→lt, eqb→eq, eqb_refl}
use lib.Arith.{lt_of_le-ne}
use lib.IntN.{ℤ, pos, negsuc}
use lib.Pow.{pow-add, pow_pos, pow_mono, pow-lt}
use lib.Ieee.{Float, nan, inf, fin, Format, prec, emax, low, up, down, size, nearest, round, fits}
use lib.Ieee.Digits.{size_reaches, back}
use lib.Ieee.Fits.{and_l, and_r, two, two-le_pos}
use lib.Ieee.Nearest.{closest}
use lib.Ieee.Order.{drop, kept}
use lib.Ieee.Positive.{num, den, value→cross}
use lib.Ieee.Scale.{grid, overflow, finite, round_val}
use Rattle.scan.proofs.Cases.{by_order}
use Rattle.scaling.specs.Nearest.{distance, deviation, Nearest}

-- ---- The nearest multiple

-- What `compare` says.
abbrev pub Cmp : Ordering → ℕ → ℕ → Type 0
Cmp Ordering.lt a b = a < b
Cmp Ordering.eq a b = a ≡ b
Cmp Ordering.gt a b = b < a

pub cmp : (a b : ℕ) → Cmp (compare a b) a b
cmp a b = go (compare a b) (leb→le a b) (nleb→lt a b) (eqb→eq a b) (λ (e : a ≡ b). subst (λ (x : ℕ). T (eqb a x)) e (eqb_refl a))
  where
    go : (o : Ordering) → (T (is_le o) → a ≤ b) → (T (not (is_le o)) → b < a) → (T (compare_is_eq o) → a ≡ b) → (a ≡ b → T (compare_is_eq o)) → Cmp o a b
    go Ordering.lt h k e n = lt_of_le-ne (h tt) n
    go Ordering.eq h k e n = e tt
    go Ordering.gt h k e n = k tt

-- n = Q + r lies between Q and Q + u, and Z does not: Q is as near as Z if r is at most half of u, and Q + u if it is at least half.
lower : (Q r u n Z : ℕ) → Q + r ≡ n → r * 2 ≤ u → r < u → (Z ≤ Q) ⊎ (Q + u ≤ Z) → distance Q n ≤ distance Z n
lower Q r u n Z e h l (inl a) = omega arith
lower Q r u n Z e h l (inr a) = omega arith

upper : (Q r u n Z : ℕ) → Q + r ≡ n → u ≤ r * 2 → r < u → (Z ≤ Q) ⊎ (Q + u ≤ Z) → distance (Q + u) n ≤ distance Z n
upper Q r u n Z e h l (inl a) = omega arith
upper Q r u n Z e h l (inr a) = omega arith

even_or : (q : ℕ) → (q + q % 2 ≡ q) ⊎ (q + q % 2 ≡ suc q)
even_or q = by_order (q % 2) 0 (λ h. inl (omega arith)) (λ h. inr (omega arith))

outside : (q u z : ℕ) → (z * u ≤ q * u) ⊎ (q * u + u ≤ z * u)
outside q u z = by_order z q (λ h. inl (mul-le-mul_right u h)) (λ h. inr (le_trans (le_of_eq (sym (suc-mul q u))) (mul-le-mul_right u h)))

chosen : (q r u n z : ℕ) (o : Ordering) → Cmp o (r * 2) u → q * u + r ≡ n → r < u → distance (nearest q o * u) n ≤ distance (z * u) n
chosen q r u n z Ordering.lt c e l = lower (q * u) r u n (z * u) e (le_of_lt c) l (outside q u z)
chosen q r u n z Ordering.eq c e l =
    elim (even_or q) [
      | inl d ↦ subst (λ (w : ℕ). distance (w * u) n ≤ distance (z * u) n) (sym d) (lower (q * u) r u n (z * u) e (le_of_eq c) l (outside q u z))
      | inr d ↦ subst (λ (w : ℕ). distance w n ≤ distance (z * u) n) (sym (ap (λ (w : ℕ). w * u) d ∙ suc-mul q u))
          (upper (q * u) r u n (z * u) e (le_of_eq (sym c)) l (outside q u z))
    ]
chosen q r u n z Ordering.gt c e l = subst (λ (w : ℕ). distance w n ≤ distance (z * u) n) (sym (suc-mul q u))
    (upper (q * u) r u n (z * u) e (le_of_lt c) l (outside q u z))

pub closest_near : (n u z : ℕ) → 0 < u → distance (closest n u * u) n ≤ distance (z * u) n
closest_near n u z U = chosen (n / u) (n % u) u n z (compare (n % u * 2) u) (cmp (n % u * 2) u) (div-add-mod' n u) (mod-lt n U)

-- ---- In units of the format's smallest value, 2 ^ -low: the fraction is n / b, and a value is q * 2 ^ j for a q below 2 ^ prec

-- How far Z units lie from n / b, times b.
abbrev off : ℕ → ℕ → ℕ → ℕ
off n b Z = distance (Z * b) n

module _ (p n b : ℕ) (P : 0 < p) (B : 0 < b) where
  abbrev k : ℕ
  k = drop p n b

  abbrev G : ℕ
  G = kept p n b * 2 ^ k

  -- A multiple of 2 ^ k.
  multiple : (z : ℕ) → off n b G ≤ off n b (z * 2 ^ k)
  multiple z =
      subst (λ (w : ℕ). distance w n ≤ off n b (z * 2 ^ k)) (turn (kept p n b))
      (subst (λ (w : ℕ). distance (kept p n b * (b * 2 ^ k)) n ≤ distance w n) (turn z) (closest_near n (b * 2 ^ k) z (mul-pos B (pow_pos k))))
    where
      turn : (w : ℕ) → w * (b * 2 ^ k) ≡ w * 2 ^ k * b
      turn w = simp (mul_assoc, mul_comm, mul_left_comm)

  -- A power of two that is a multiple of 2 ^ k and lies below the fraction, and above all values with a smaller last digit.
  abbrev W : ℕ
  W = 2 ^ (p - 1) * 2 ^ k

  W-low : 0 < k → W * b ≤ n
  W-low h =
      (le-div_iff_mul-le B).0
      (le_trans (le_of_eq (sym (pow-add 2 (p - 1) k))) (size_reaches (n / b) (p - 1 + k) (all_in_use (size (n / b)) p P h)))
    where
      all_in_use : (z p : ℕ) → 0 < p → 0 < z - p → p - 1 + (z - p) < z
      all_in_use z p a h = omega arith

  W-high : (q j : ℕ) → q < 2 ^ p → j < k → q * 2 ^ j ≤ W
  W-high q j h l =
      le_trans (mul-le-mul_right (2 ^ j) (le_of_lt h))
      (le_trans (le_of_eq (sym (pow-add 2 p j))) (le_trans (pow_mono (room p j k P l)) (le_of_eq (pow-add 2 (p - 1) k))))
    where
      room : (p j k : ℕ) → 0 < p → j < k → p + j ≤ p - 1 + k
      room p j k a h = omega arith

  below : (Y : ℕ) → Y ≤ W → W * b ≤ n → off n b W ≤ off n b Y
  below Y h l = let g = mul-le-mul_right b h in omega arith

  pub value : (q j : ℕ) → q < 2 ^ p → off n b G ≤ off n b (q * 2 ^ j)
  value q j h =
      by_order k j
      (λ l. subst (λ (w : ℕ). off n b G ≤ off n b w)
      (mul_assoc q (2 ^ (j - k)) (2 ^ k) ∙ ap (λ (w : ℕ). q * w) (sym (pow-add 2 (j - k) k) ∙ ap (λ (w : ℕ). 2 ^ w) (back j k l)))
      (multiple (q * 2 ^ (j - k))))
      (λ l. le_trans (multiple (2 ^ (p - 1))) (below (q * 2 ^ j) (W-high q j h l) (W-low (some j k l))))
    where
      some : (j k : ℕ) → j < k → 0 < k
      some j k l = omega arith

-- ---- a value that fits is so many units

pub record Units (f : Format) (y : Float) : Type 0 where
  pub q : ℕ
  pub j : ℕ
  pub few : q < 2 ^ prec f
  pub is : num y * 2 ^ low f ≡ q * 2 ^ j * den y

module _ (f : Format) (s : Bool) (m : ℕ) (e : ℤ) (t : T (fits f (fin s (suc m) e))) where
  digits : T (eqb (suc m % 2) 1 && ltb (suc m) (2 ^ prec f) && leb (down e) (2 ^ low f))
  unfolding fits
  digits = and_l (eqb (suc m % 2) 1 && ltb (suc m) (2 ^ prec f) && leb (down e) (2 ^ low f)) (ltb (suc m * up e) (2 ^ suc (emax f) * down e)) t

  digits_few : suc m < 2 ^ prec f
  digits_few = ltb→lt (suc m) (2 ^ prec f)
      (and_r (eqb (suc m % 2) 1) (ltb (suc m) (2 ^ prec f)) (and_l (eqb (suc m % 2) 1 && ltb (suc m) (2 ^ prec f)) (leb (down e) (2 ^ low f)) digits))

  not_low : down e ≤ 2 ^ low f
  not_low = leb→le (down e) (2 ^ low f) (and_r (eqb (suc m % 2) 1 && ltb (suc m) (2 ^ prec f)) (leb (down e) (2 ^ low f)) digits)

under : (i l : ℕ) → 2 ^ i ≤ 2 ^ l → i ≤ l
under i l h = by_order i l (λ g. g) (λ g. absurd (not-le_of_lt (pow-lt g) h))

units_of : (f : Format) (y : Float) → T (fits f y) → T (finite y) → Units f y
units_of f nan t u = absurd u
units_of f (inf s) t u = absurd u
units_of f (fin s zero e) t u = record { q = 0; j = 0; few = pow_pos (prec f); is = simp zero-mul }
units_of f (fin s (suc m) (pos i)) t u =
    record {
      q = suc m;
      j = i + low f;
      few = digits_few f s m (pos i) t;
      is = sym (mul-one (suc m * 2 ^ (i + low f)) ∙ ap (λ (w : ℕ). suc m * w) (pow-add 2 i (low f)) ∙ sym (mul_assoc (suc m) (2 ^ i) (2 ^ low f)));
    }
units_of f (fin s (suc m) (negsuc i)) t u =
    record {
      q = suc m;
      j = low f - suc i;
      few = digits_few f s m (negsuc i) t;
      is =
          ap (λ (w : ℕ). w * 2 ^ low f) (mul-one (suc m))
          ∙ sym (mul_assoc (suc m) (2 ^ (low f - suc i)) (2 ^ suc i)
          ∙ ap (λ (w : ℕ). suc m * w)
          (sym (pow-add 2 (low f - suc i) (suc i))
          ∙ ap (λ (w : ℕ). 2 ^ w) (back (low f) (suc i) (under (suc i) (low f) (not_low f s m (negsuc i) t)))));
    }

-- ---- Back from units

distance_mul : (x y c : ℕ) → distance x y * c ≡ distance (x * c) (y * c)
distance_mul x y c = add-mul (x - y) (y - x) c ∙ ap (λ (w : ℕ). w + (y - x) * c) (less x y) ∙ ap (λ (w : ℕ). x * c - y * c + w) (less y x)
  where
    less : (a b : ℕ) → (a - b) * c ≡ a * c - b * c
    less a b = mul_comm (a - b) c ∙ mul-sub c a b ∙ simp mul_comm

deviation_units : (n d L Z a b : ℕ) → n * L ≡ Z * d → distance (n * b) (a * d) * L ≡ off (a * L) b Z * d
deviation_units n d L Z a b e =
    distance_mul (n * b) (a * d) L
    ∙ ap (λ (w : ℕ). distance w (a * d * L)) (mul_right_comm n b L ∙ ap (λ (w : ℕ). w * b) e ∙ mul_right_comm Z d b)
    ∙ ap (λ (w : ℕ). distance (Z * b * d) w) (mul_right_comm a d L)
    ∙ sym (distance_mul (Z * b) (a * L) d)

-- The rounded value is a nearest one, if it is no infinity.
pub round_near : (f : Format) (a b : ℕ) → 0 < b → grid f a b < overflow f → Nearest f (round f false a b) a b
round_near f a b B h y t u =
    let L = 2 ^ low f in
    let x = round f false a b in
    let U = units_of f y t u in
    let Y = U.q * 2 ^ U.j in
    let fx : deviation x a b * L ≡ off (a * L) b (grid f a b) * den x = deviation_units (num x) (den x) L (grid f a b) a b
    (value→cross x (grid f a b) L (round_val f a b h)) in
    let fy : deviation y a b * L ≡ off (a * L) b Y * den y = deviation_units (num y) (den y) L Y a b U.is in
    let le : off (a * L) b (grid f a b) ≤ off (a * L) b Y = value (prec f) (a * L) b (two-le_pos (prec f) (two f)) B U.q U.j U.few in
    le_of_mul-le-mul_right
    (le_trans (le_of_eq (mul_right_comm (deviation x a b) (den y) L ∙ ap (λ (w : ℕ). w * den y) fx
    ∙ mul_right_comm (off (a * L) b (grid f a b)) (den x) (den y)))
    (le_trans (mul-le-mul_right (den x) (mul-le-mul_right (den y) le))
    (le_of_eq (sym (mul_right_comm (deviation y a b) (den x) L ∙ ap (λ (w : ℕ). w * den x) fy)))))
    (pow_pos (low f))
