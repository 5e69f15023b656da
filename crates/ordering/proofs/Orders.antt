-- The axes of every configuration for three indices are an order of the indices, by one computed test.
use mathlib.Core.Path.{◌≡◌, refl, sym, ap, subst, ◌∙◌}
use mathlib.Core.Bool.{Bool, true, false, ◌&&◌, ◌||◌, false≢true}
use mathlib.Core.List.{List, [], ◌∷◌}
use Prim.Native.Nat.{ℕ, suc, ◌-◌, ◌≤◌, ◌<◌}
use native.Mathlib.Omega.{arith}
use borrow.Author.Tests.{eqb-true}
use lib.Dec.{eqb}
use lib.ListN.{length, get_or}
use Rattle.scan.proofs.Cases.{both_true}
use Rattle.scan.proofs.Below.{all_at}
use Rattle.raster.specs.Axis.{Axis, forward, configurations, insert_with_after, order_from, order_of}
use Rattle.raster.specs.Position.{index_of}
use Rattle.raster.specs.Strides.{axis_of, axes_of}
use Rattle.raster.specs.declared.configuration.Direction.{Direction}
use Rattle.raster.specs.declared.configuration.Order.{Order}
use Rattle.ordering.specs.Stored.{axis_at}

pub data Permutes : ℕ → ℕ → ℕ → Type 0 where
  p123 : Permutes 1 2 3
  p132 : Permutes 1 3 2
  p213 : Permutes 2 1 3
  p231 : Permutes 2 3 1
  p312 : Permutes 3 1 2
  p321 : Permutes 3 2 1

abbrev is : ℕ → ℕ → ℕ → ℕ → ℕ → ℕ → Bool
is a b c x y z = eqb a x && (eqb b y && eqb c z)

is_case : (a b c x y z : ℕ) (rest : Bool) → Permutes x y z → (is a b c x y z || rest) ≡ true → (rest ≡ true → Permutes a b c) → Permutes a b c
is_case a b c x y z rest p e more = by (is a b c x y z) refl e
  where
    by : (t : Bool) → is a b c x y z ≡ t → (t || rest) ≡ true → Permutes a b c
    by true q h =
        let one = both_true (eqb a x) _ q in
        let two = both_true (eqb b y) _ one.1 in
        rw (eqb-true a x one.0, eqb-true b y two.0, eqb-true c z two.1) p
    by false q h = more h

abbrev permutes : ℕ → ℕ → ℕ → Bool
permutes a b c =
    is a b c 1 2 3 || (is a b c 1 3 2 || (is a b c 2 1 3 || (is a b c 2 3 1 || (is a b c 3 1 2 || (is a b c 3 2 1 || false)))))

permutes_says : (a b c : ℕ) → permutes a b c ≡ true → Permutes a b c
permutes_says a b c e =
    is_case a b c 1 2 3 _ p123 e (λ e. is_case a b c 1 3 2 _ p132 e (λ e. is_case a b c 2 1 3 _ p213 e (λ e. is_case a b c 2 3 1 _ p231 e
    (λ e. is_case a b c 3 1 2 _ p312 e (λ e. is_case a b c 3 2 1 false p321 e (λ e. absurd (false≢true e)))))))

three_of : (l : List Axis) → length l ≡ 3 → l ≡ get_or l 0 (forward 0) ∷ get_or l 1 (forward 0) ∷ get_or l 2 (forward 0) ∷ []
three_of [] e = absurd (omega arith)
three_of (a ∷ []) e = absurd (omega arith)
three_of (a ∷ b ∷ []) e = absurd (omega arith)
three_of (a ∷ b ∷ c ∷ []) e = refl
three_of (a ∷ b ∷ c ∷ d ∷ l) e = absurd (omega arith)

abbrev axis_index : ℕ → ℕ → ℕ
axis_index number k = index_of (axis_at number k)

order_test : (m : ℕ) → m < 48
    → (eqb (length (order_of 3 (suc m))) 3 && permutes (axis_index (suc m) 0) (axis_index (suc m) 1) (axis_index (suc m) 2)) ≡ true
unfolding axis_at order_of order_from insert_with_after configurations
order_test m h =
    all_at (λ (m : ℕ). eqb (length (order_of 3 (suc m))) 3 && permutes (axis_index (suc m) 0) (axis_index (suc m) 1) (axis_index (suc m) 2)) 48 refl m h

module _ (number : ℕ) (some : 1 ≤ number) (few : number ≤ 48) where
  tested : (eqb (length (order_of 3 number)) 3 && permutes (axis_index number 0) (axis_index number 1) (axis_index number 2)) ≡ true
  tested =
      let e : suc (number - 1) ≡ number = omega arith in
      subst (λ (n : ℕ). (eqb (length (order_of 3 n)) 3 && permutes (axis_index n 0) (axis_index n 1) (axis_index n 2)) ≡ true) e
      (order_test (number - 1) (omega arith))

  pub order_axes : order_of 3 number ≡ axis_at number 0 ∷ axis_at number 1 ∷ axis_at number 2 ∷ []
  unfolding axis_at
  order_axes = three_of (order_of 3 number) (eqb-true (length (order_of 3 number)) 3 (both_true (eqb (length (order_of 3 number)) 3) _ tested).0)

  pub order_permutes : Permutes (axis_index number 0) (axis_index number 1) (axis_index number 2)
  order_permutes = permutes_says _ _ _ (both_true (eqb (length (order_of 3 number)) 3) _ tested).1

-- ---- The order of a configuration, in code

index_of_lem : (b : Bool) (k : ℕ) → index_of (axis_of b k) ≡ k
index_of_lem true k = refl
index_of_lem false k = refl

abbrev Index : ℕ → Type 0
Index k = (1 ≤ k) × (k ≤ 3)

permuted : {x y z : ℕ} → Permutes x y z → Index x × (Index y × Index z)
permuted p123 = omega arith
permuted p132 = omega arith
permuted p213 = omega arith
permuted p231 = omega arith
permuted p312 = omega arith
permuted p321 = omega arith

-- What a direction is of axis k of a configuration.
pub record IsAxis (number k : ℕ) (d : Direction) : Type 0 where
  pub axis : axis_of d.backward d.index ≡ axis_at number k
  pub index : (1 ≤ d.index) × (d.index ≤ 3)

is_axis : (number k : ℕ) (d : Direction) → axis_of d.backward d.index ≡ axis_at number k → Index (axis_index number k) → IsAxis number k d
is_axis number k d e h =
    let q : axis_index number k ≡ d.index = ap index_of (sym e) ∙ index_of_lem d.backward d.index in
    record { axis = e; index = omega (arith, q) }

module _ (number : ℕ) (some : 1 ≤ number) (few : number ≤ 48) (o : Order) (e : axes_of o ≡ order_of 3 number) where
  axis_is : (k : ℕ) → get_or (axes_of o) k (forward 0) ≡ axis_at number k
  unfolding axis_at
  axis_is k = ap (λ (l : List Axis). get_or l k (forward 0)) e

  pub order_first : IsAxis number 0 o.first
  order_first = is_axis number 0 o.first (axis_is 0) (permuted (order_permutes number some few)).0

  pub order_second : IsAxis number 1 o.second
  order_second = is_axis number 1 o.second (axis_is 1) (permuted (order_permutes number some few)).1.0

  pub order_third : IsAxis number 2 o.third
  order_third = is_axis number 2 o.third (axis_is 2) (permuted (order_permutes number some few)).1.1
