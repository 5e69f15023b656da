-- Steps along three axes: where each element stands, and that all stand inside the pixels.
use mathlib.Core.Path.{◌≡◌, refl, sym, ap, ◌∙◌}
use mathlib.Core.List.{List, [], ◌∷◌}
use Prim.Native.Nat.{ℕ, ◌+◌, ◌-◌, ◌*◌, ◌≤◌, ◌<◌}
use native.Mathlib.Nat.{zero-mul, mul-one, one-mul, mul-add, mul_assoc, mul_comm, mul-suc, mul-le-mul_left}
use native.Mathlib.Omega.{arith}
use lib.ListN.{take, get_or}
use Rattle.raster.specs.Axis.{Axis, forward, backward}
use Rattle.raster.specs.Position.{product, index_of, dim_of, along}
use Rattle.raster.specs.Strided.{place_of, Inside3}
use Rattle.frame.proofs.ShapeLaws.{below}
use Rattle.ordering.specs.Stored.{stride_of, up_of, down_of, back_of, steps_along}
use Rattle.ordering.proofs.Orders.{Permutes, p123, p132, p213, p231, p312, p321}

-- ---- One axis

module _ (dims : List ℕ) (w : ℕ) where
  -- The element with coordinate i is so far from the start of the axis, and none is further than the last.
  pub record Run (a : Axis) (i : ℕ) : Type 0 where
    pub here : up_of dims w a * i + back_of dims w a ≡ stride_of dims w a * along a (dim_of dims a) i + down_of dims w a * i
    pub most : back_of dims w a + up_of dims w a * i ≤ stride_of dims w a * (dim_of dims a - 1)
    pub last : stride_of dims w a * along a (dim_of dims a) i ≤ stride_of dims w a * (dim_of dims a - 1)

  pub runs : (a : Axis) (i : ℕ) → i < dim_of dims a → Run a i
  unfolding up_of down_of back_of
  runs (forward n) i h =
      let s = stride_of dims w (forward n) in
      let d = dim_of dims (forward n) in
      let le : s * i ≤ s * (d - 1) = mul-le-mul_left s (omega arith) in
      record {
        here = omega (arith, zero-mul (d - 1), zero-mul i);
        most = omega (arith, zero-mul (d - 1));
        last = le;
      }
  runs (backward n) i h =
      let s = stride_of dims w (backward n) in
      let d = dim_of dims (backward n) in
      let e : d - 1 - i + i ≡ d - 1 = omega arith in
      let le : s * (d - 1 - i) ≤ s * (d - 1) = mul-le-mul_left s (omega arith) in
      let sum : s * (d - 1) ≡ s * (d - 1 - i) + s * i = ap (λ (k : ℕ). s * k) (sym e) ∙ mul-add s (d - 1 - i) i in
      record {
        here = omega (arith, zero-mul i);
        most = omega (arith, zero-mul i);
        last = le;
      }

-- ---- Three axes in an order

abbrev units : ℕ → ℕ → ℕ → ℕ → ℕ
units d1 d2 d3 k = product (take (k - 1) (d1 ∷ d2 ∷ d3 ∷ []))

-- The indices whose coordinates along the axes x, y and z are e1, e2 and e3, and their position in the pixels.
pub record Placed (d1 d2 d3 x y z e1 e2 e3 : ℕ) : Type 0 where
  pub i1 : ℕ
  pub i2 : ℕ
  pub i3 : ℕ
  pub at1 : get_or (i1 ∷ i2 ∷ i3 ∷ []) (x - 1) 0 ≡ e1
  pub at2 : get_or (i1 ∷ i2 ∷ i3 ∷ []) (y - 1) 0 ≡ e2
  pub at3 : get_or (i1 ∷ i2 ∷ i3 ∷ []) (z - 1) 0 ≡ e3
  pub sum : i1 + d1 * (i2 + d2 * i3) ≡ units d1 d2 d3 x * e1 + units d1 d2 d3 y * e2 + units d1 d2 d3 z * e3
  pub inside : (i1 < d1) × (i2 < d2) × (i3 < d3)

linear : (d1 d2 d3 i1 i2 i3 : ℕ)
    → i1 + d1 * (i2 + d2 * i3) ≡ units d1 d2 d3 1 * i1 + units d1 d2 d3 2 * i2 + units d1 d2 d3 3 * i3
unfolding product
linear d1 d2 d3 i1 i2 i3 =
    rw (mul-one d1, mul-one d2, one-mul i1, mul-add d1 i2 (d2 * i3), mul_assoc d1 d2 i3) (omega arith)

module _ (d1 d2 d3 e1 e2 e3 : ℕ) where
  abbrev dims : List ℕ
  dims = d1 ∷ d2 ∷ d3 ∷ []

  pub placed : {x y z : ℕ} → Permutes x y z → e1 < get_or dims (x - 1) 1 → e2 < get_or dims (y - 1) 1 → e3 < get_or dims (z - 1) 1
      → Placed d1 d2 d3 x y z e1 e2 e3
  placed p123 h1 h2 h3 =
      record { i1 = e1; i2 = e2; i3 = e3; at1 = refl; at2 = refl; at3 = refl; sum = linear d1 d2 d3 e1 e2 e3; inside = (h1, h2, h3) }
  placed p132 h1 h2 h3 =
      record { i1 = e1; i2 = e3; i3 = e2; at1 = refl; at2 = refl; at3 = refl; sum = omega (arith, linear d1 d2 d3 e1 e3 e2); inside = (h1, h3, h2) }
  placed p213 h1 h2 h3 =
      record { i1 = e2; i2 = e1; i3 = e3; at1 = refl; at2 = refl; at3 = refl; sum = omega (arith, linear d1 d2 d3 e2 e1 e3); inside = (h2, h1, h3) }
  placed p231 h1 h2 h3 =
      record { i1 = e3; i2 = e1; i3 = e2; at1 = refl; at2 = refl; at3 = refl; sum = omega (arith, linear d1 d2 d3 e3 e1 e2); inside = (h3, h1, h2) }
  placed p312 h1 h2 h3 =
      record { i1 = e2; i2 = e3; i3 = e1; at1 = refl; at2 = refl; at3 = refl; sum = omega (arith, linear d1 d2 d3 e2 e3 e1); inside = (h2, h3, h1) }
  placed p321 h1 h2 h3 =
      record { i1 = e3; i2 = e2; i3 = e1; at1 = refl; at2 = refl; at3 = refl; sum = omega (arith, linear d1 d2 d3 e3 e2 e1); inside = (h3, h2, h1) }

-- ---- In bytes

scaled : (w s t u a b c : ℕ) → w * (s * a + t * b + u * c) ≡ w * s * a + w * t * b + w * u * c
scaled w s t u a b c =
    rw (mul-add w (s * a + t * b) (u * c), mul-add w (s * a) (t * b), mul_assoc w s a, mul_assoc w t b, mul_assoc w u c)

module _ (d1 d2 d3 w : ℕ) (a b c : Axis) (p : Permutes (index_of a) (index_of b) (index_of c)) where
  abbrev shape : List ℕ
  shape = d1 ∷ d2 ∷ d3 ∷ []

  abbrev far : Axis → ℕ → ℕ
  far x i = stride_of shape w x * along x (dim_of shape x) i

  abbrev end : Axis → ℕ
  end x = stride_of shape w x * (dim_of shape x - 1)

  -- The last element ends inside the pixels.
  pub ends_inside : 0 < dim_of shape a → 0 < dim_of shape b → 0 < dim_of shape c → end a + end b + end c + w ≤ w * (d1 * (d2 * d3))
  unfolding stride_of
  ends_inside h1 h2 h3 =
      let q = placed d1 d2 d3 (dim_of shape a - 1) (dim_of shape b - 1) (dim_of shape c - 1) p (omega arith) (omega arith) (omega arith) in
      let i = q.inside in
      let at = q.i1 + d1 * (q.i2 + d2 * q.i3) in
      let less : at < d1 * (d2 * d3) = below q.i1 d1 (q.i2 + d2 * q.i3) (d2 * d3) i.0 (below q.i2 d2 q.i3 d3 i.1 i.2) in
      let room : w * at + w ≤ w * (d1 * (d2 * d3)) = omega (arith, mul-suc w at, mul-le-mul_left w less) in
      omega (
        arith,
        room,
        ap (λ (k : ℕ). w * k) q.sum,
        scaled w (units d1 d2 d3 (index_of a)) (units d1 d2 d3 (index_of b)) (units d1 d2 d3 (index_of c)) (dim_of shape a - 1) (dim_of shape b - 1) (dim_of shape c - 1),
      )

  -- Where the element with coordinates i, j and k stands.
  pub placed_at : (i j k : ℕ) → i < dim_of shape a → j < dim_of shape b → k < dim_of shape c
      → place_of (steps_along shape w a b c) i j k ≡ far a i + far b j + far c k
  unfolding steps_along
  placed_at i j k h1 h2 h3 =
      let r1 = runs shape w a i h1 in
      let r2 = runs shape w b j h2 in
      let r3 = runs shape w c k h3 in
      omega (arith, r1.here, r2.here, r3.here)

  -- That is the element with these indices.
  pub placed_bytes : (i j k : ℕ) → i < dim_of shape a → j < dim_of shape b → k < dim_of shape c
      → (q : Placed d1 d2 d3 (index_of a) (index_of b) (index_of c) (along a (dim_of shape a) i) (along b (dim_of shape b) j) (along c (dim_of shape c) k))
      → place_of (steps_along shape w a b c) i j k ≡ (q.i1 + d1 * (q.i2 + d2 * q.i3)) * w
  unfolding stride_of
  placed_bytes i j k h1 h2 h3 q =
      placed_at i j k h1 h2 h3
      ∙ sym (scaled w (units d1 d2 d3 (index_of a)) (units d1 d2 d3 (index_of b)) (units d1 d2 d3 (index_of c)) _ _ _)
      ∙ ap (λ (x : ℕ). w * x) (sym q.sum) ∙ mul_comm w _

  -- All stand inside.
  pub walk_inside : (len : ℕ) → 0 < dim_of shape a → 0 < dim_of shape b → 0 < dim_of shape c → w * (d1 * (d2 * d3)) ≤ len
      → Inside3 (steps_along shape w a b c) (dim_of shape a) (dim_of shape b) (dim_of shape c) w len
  unfolding steps_along
  walk_inside len s1 s2 s3 room k h3 =
      let r3 = runs shape w c k h3 in
      let f1 = runs shape w a 0 s1 in
      let f2 = runs shape w b 0 s2 in
      let e = ends_inside s1 s2 s3 in (
        omega (arith, r3.here, r3.most, f1.most, f2.most, e),
        λ j h2.
            let r2 = runs shape w b j h2 in (
              omega (arith, r3.here, r2.here, r3.last, r2.most, f1.most, e),
              λ i h1.
                  let r1 = runs shape w a i h1 in
                  omega (arith, r1.here, r2.here, r3.here, r1.most, r2.last, r3.last, e),
            ),
      )

-- No dimension of an order is 0.
pub some_dims : (d1 d2 d3 : ℕ) {x y z : ℕ} → 0 < d1 → 0 < d2 → 0 < d3 → Permutes x y z
    → (0 < get_or (d1 ∷ d2 ∷ d3 ∷ []) (x - 1) 1) × (0 < get_or (d1 ∷ d2 ∷ d3 ∷ []) (y - 1) 1) × (0 < get_or (d1 ∷ d2 ∷ d3 ∷ []) (z - 1) 1)
some_dims d1 d2 d3 s1 s2 s3 p123 = (s1, s2, s3)
some_dims d1 d2 d3 s1 s2 s3 p132 = (s1, s3, s2)
some_dims d1 d2 d3 s1 s2 s3 p213 = (s2, s1, s3)
some_dims d1 d2 d3 s1 s2 s3 p231 = (s2, s3, s1)
some_dims d1 d2 d3 s1 s2 s3 p312 = (s3, s1, s2)
some_dims d1 d2 d3 s1 s2 s3 p321 = (s3, s2, s1)
