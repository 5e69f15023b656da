-- An array that is stored as it is delivered is delivered as it stands.
use mathlib.Core.Path.{◌≡◌, refl, sym, ap, ◌∙◌}
use mathlib.Core.Bool.{Bool, true, false, ◌||◌, false≢true}
use mathlib.Core.List.{List, [], ◌∷◌}
use mathlib.Core.Logic.{◌⊎◌, inl, inr}
use Prim.Native.Nat.{ℕ, ◌+◌, ◌*◌, ◌<◌}
use native.Mathlib.Nat.{mul_comm, mul-one, one-mul, zero-mul, add-zero}
use native.Mathlib.Omega.{arith}
use borrow.Author.Tests.{eqb-true}
use lib.Dec.{eqb}
use lib.IntN.{ℤ, pos, negsuc}
use lib.ListN.{length, take, drop}
use Rattle.scan.proofs.Cases.{both_true}
use Rattle.raster.specs.Axis.{configurations, insert_with_after, order_from, order_of}
use Rattle.raster.specs.Element.{element_bytes}
use Rattle.raster.specs.Position.{product, position_from, stored_position}
use Rattle.raster.specs.Strided.{Octets, turned, place, place_of, row_of}
use Rattle.raster.specs.Types.{DataType}
use Rattle.raster.proofs.Joined.{joined_same, joined_rows_lem}
use Rattle.raster.proofs.OrderLaws.{as_three}
use Rattle.raster.proofs.RoundTrip.{element_moved, element_kept}
use Rattle.raster.proofs.Stored.{octets_part}
use Rattle.raster.proofs.Tables.{type_width_some}
use Rattle.description.specs.Describe.{is_zero}
use Rattle.description.specs.Shape.{array_type, array_dims}
use Rattle.description.specs.Valid.{ValidArray}
use Rattle.description.specs.declared.Description.{Description}
use Rattle.strides.proofs.RowLaws.{length_element}
use Rattle.elements.proofs.RunLaws.{flat}
use Rattle.array.specs.Delivery.{stored_element, delivered_element, delivered}
use Rattle.array.proofs.DeliveryLaws.{array_steps, stored_place, element_inside, room_is}
use Rattle.stored.specs.Stored.{as_delivered}

-- ---- The test

pub zero_offset : (z : ℤ) → is_zero z ≡ true → z ≡ pos 0
zero_offset (pos n) e = ap pos (eqb-true n 0 e)
zero_offset (negsuc n) e = absurd (false≢true e)

either_true : (a b : Bool) → a || b ≡ true → (a ≡ true) ⊎ (b ≡ true)
either_true true b e = inl refl
either_true false b e = inr e

record Kept (d : Description) (asked : ℕ) : Type 0 where
  pub configured : d.configuration ≡ 1
  pub unmoved : d.offset ≡ pos 0
  pub ordered : (d.byteorder ≡ asked) ⊎ ((array_type d).width ≡ 1)

kept : (d : Description) (asked : ℕ) → as_delivered d asked ≡ true → Kept d asked
unfolding as_delivered
kept d asked e =
    let p = both_true _ _ e in
    let q = both_true _ _ p.1 in
    record {
      configured = eqb-true d.configuration 1 p.0;
      unmoved = zero_offset d.offset q.0;
      ordered = in_order (either_true (eqb d.byteorder asked) (eqb (array_type d).width 1) q.1);
    }
  where
    in_order : (eqb d.byteorder asked ≡ true) ⊎ (eqb (array_type d).width 1 ≡ true) → (d.byteorder ≡ asked) ⊎ ((array_type d).width ≡ 1)
    in_order (inl h) = inl (eqb-true d.byteorder asked h)
    in_order (inr h) = inr (eqb-true (array_type d).width 1 h)

-- ---- Elements

turned_one : (back : Bool) (l : List ℕ) → length l ≡ 1 → turned back l ≡ l
turned_one false l e = refl
turned_one true [] e = refl
turned_one true (x ∷ []) e = refl
turned_one true (x ∷ y ∷ l) e = absurd (omega arith)

-- An element in the order asked for, or of one byte, keeps its bytes.
element_stays : (t : DataType) (order asked : ℕ) (l : List ℕ) → Octets l → length l ≡ t.width → 0 < t.width
    → (order ≡ asked) ⊎ (t.width ≡ 1) → element_bytes t order (pos 0) asked l ≡ l
element_stays t order asked l h wide some (inl e) = element_kept t order asked l h wide some (ap (λ (n : ℕ). eqb n 1) (sym e))
element_stays t order asked l h wide some (inr e) =
    element_moved t order asked l h wide some
    ∙ ap (turned (eqb asked 1)) (turned_one (eqb order 1) l (wide ∙ e)) ∙ turned_one (eqb asked 1) l (wide ∙ e)

-- Configuration 1 has index 1 fastest and index 3 slowest.
first_position : (a b c i1 i2 i3 : ℕ)
    → stored_position (a ∷ b ∷ c ∷ []) (order_of 3 1) (i1 ∷ i2 ∷ i3 ∷ []) ≡ i1 + a * i2 + a * b * i3
unfolding stored_position position_from order_of order_from insert_with_after configurations
first_position a b c i1 i2 i3 =
    rw (one-mul a, mul-one i1, mul_comm i2 a, mul_comm i3 (a * b), add-zero (a * b * i3)) (omega arith)

-- ---- The array

module _ (d : Description) (asked : ℕ) (l : List ℕ) (v : ValidArray d (length l)) (octets : Octets l) (same : as_delivered d asked ≡ true) where
  abbrev w : ℕ
  w = (array_type d).width

  -- The element with a number, as elements stand one after another.
  abbrev stands : ℕ → List ℕ
  stands k = take w (drop (place 0 w 0 k) l)

  -- Each element is delivered as it is stored,
  unchanged : (i1 i2 i3 : ℕ) → i1 < d.dim1 → i2 < d.dim2 → i3 < d.dim3 → delivered_element d asked l i1 i2 i3 ≡ stored_element d l i1 i2 i3
  unfolding delivered_element
  unchanged i1 i2 i3 h1 h2 h3 =
      let at = stored_place d (length l) v l i1 i2 i3 h1 h2 h3 in
      let p = place_of (array_steps d) i1 i2 i3 in
      let e = element_inside d (length l) v i1 i2 i3 h1 h2 h3 in
      let bytes : Octets (stored_element d l i1 i2 i3) = rw at (octets_part p w l octets) in
      let wide : length (stored_element d l i1 i2 i3) ≡ w = rw at (length_element w l p e) in
      let k = kept d asked same in
      ap (λ (z : ℤ). element_bytes (array_type d) d.byteorder z asked (stored_element d l i1 i2 i3)) k.unmoved
      ∙ element_stays (array_type d) d.byteorder asked (stored_element d l i1 i2 i3) bytes wide (type_width_some d.datatype) k.ordered

  -- and it stands where its number says.
  stored_at : (i1 i2 i3 : ℕ) → i2 < d.dim2 → i3 < d.dim3
      → stored_element d l i1 i2 i3 ≡ stands (i1 + d.dim1 * i2 + d.dim1 * d.dim2 * i3)
  unfolding stored_element
  stored_at i1 i2 i3 h2 h3 =
      let k = i1 + d.dim1 * i2 + d.dim1 * d.dim2 * i3 in
      let three =
      as_three d.n d.configuration (d.dim1 ∷ d.dim2 ∷ d.dim3 ∷ []) i1 i2 i3 v.at_least_one v.few (omega (arith, v.configured))
      (λ h. omega (arith, v.past2 h)) (λ h. omega (arith, v.past3 h)) in
      let first =
      ap (λ (n : ℕ). stored_position (d.dim1 ∷ d.dim2 ∷ d.dim3 ∷ []) (order_of 3 n) (i1 ∷ i2 ∷ i3 ∷ [])) (kept d asked same).configured
      ∙ first_position d.dim1 d.dim2 d.dim3 i1 i2 i3 in
      let position : k * w ≡ place 0 w 0 k = omega (arith, mul_comm k w, zero-mul k) in
      ap (λ (p : ℕ). take w (drop (p * w) l)) (three ∙ first) ∙ ap (λ (p : ℕ). take w (drop p l)) position

  -- So the array delivered is the front of the data.
  pub front-delivered : delivered d asked l ≡ take (product (array_dims d) * w) l
  unfolding delivered row_of
  front-delivered =
      let a = d.dim1 in
      let b = d.dim2 in
      let c = d.dim3 in
      joined_same c _ _
      (λ i3 h3.
      joined_same b _ _
      (λ i2 h2. joined_same a _ _ (λ i1 h1. unchanged i1 i2 i3 h1 h2 h3 ∙ stored_at i1 i2 i3 h2 h3))
      ∙ joined_rows_lem (λ (k : ℕ). stands (k + a * b * i3)) a b)
      ∙ joined_rows_lem stands (a * b) c
      ∙ flat w l 0 (a * b * c)
      ∙ ap (λ (n : ℕ). take n l) (room_is d (length l) v w)
