-- The bits of one element: within their width, and the number of the bytes that are delivered.
use mathlib.Core.Path.{◌≡◌, refl, sym, ap, subst, ◌∙◌}
use mathlib.Core.Bool.{true, false, ◌&&◌}
use mathlib.Core.List.{List, [], ◌∷◌, ◌++◌}
use Prim.Native.Nat.{ℕ, zero, suc, ◌+◌, ◌*◌, ◌^◌, ◌≤◌, ◌<◌}
use native.Mathlib.Nat.{mod-lt, zero-mul, add-zero, sub-zero}
use native.Mathlib.Omega.{arith}
use borrow.Author.Tests.{ltb-true}
use lib.Dec.{ltb}
use lib.IntN.{ℤ}
use lib.ListN.{length, take, drop, replicate}
use Rattle.scan.specs.Buffer.{over}
use Rattle.scan.proofs.Cases.{both_true}
use Rattle.raster.specs.Bytes.{low_first, number_of, joined}
use Rattle.raster.specs.Element.{offset_bits, element_bits, element_bytes}
use Rattle.raster.specs.Axis.{order_of}
use Rattle.raster.specs.Strided.{Octets, Inside3, Stands, place, delivered_at}
use Rattle.raster.specs.Strides.{steps_of}
use Rattle.raster.specs.Types.{DataType}
use Rattle.raster.specs.declared.types.Class.{Class}
use Rattle.raster.specs.declared.types.Class.TheVariants.{Unsigned as unsigned, Signed as signed, Float as float}
use Rattle.raster.specs.declared.stride.Steps.{Steps}
use Rattle.raster.proofs.RoundTrip.{number_bound, number_of_bytes}
use Rattle.raster.proofs.Stored.{octets_part}
use Rattle.description.specs.Shape.{array_type}
use Rattle.description.specs.Valid.{ValidArray}
use Rattle.description.specs.declared.Description.{Description}
use Rattle.strides.proofs.RowLaws.{length_element}
use Rattle.shift.proofs.Sums.{offset_moved}
use Rattle.array.specs.Delivery.{is_index}
use Rattle.array.proofs.DeliveryLaws.{steps_hold}

-- ---- Bits are within their width

offset_bound : (class : Class) (w : ℕ) (offset : ℤ) (n : ℕ) → 0 < w → n < 256 ^ w → offset_bits class w offset n < 256 ^ w
unfolding offset_bits
offset_bound unsigned w offset n some h = subst (λ (x : ℕ). x < 256 ^ w) (sym (offset_moved false w offset n some h)) (mod-lt _ (omega arith))
offset_bound signed w offset n some h = subst (λ (x : ℕ). x < 256 ^ w) (sym (offset_moved true w offset n some h)) (mod-lt _ (omega arith))
offset_bound float w offset n some h = h

module _ (t : DataType) (order : ℕ) (offset : ℤ) (l : List ℕ) (some : 0 < t.width) (octets : Octets l)
    (wide : length l ≡ t.width) where
  pub bits_bound : element_bits t order offset l < 256 ^ t.width
  unfolding element_bits
  bits_bound = offset_bound t.class t.width offset (number_of order l) some (rw wide at (number_bound order l octets))

  -- They are the number of the bytes delivered.
  pub bits_delivered : (asked : ℕ) → number_of asked (element_bytes t order offset asked l) ≡ element_bits t order offset l
  unfolding element_bytes
  bits_delivered asked = number_of_bytes asked t.width (element_bits t order offset l) bits_bound

-- ---- One element alone, in front of zeros

-- The steps of one element at an offset.
abbrev pub steps_at : ℕ → Steps
steps_at p = record { at = p; up1 = 0; down1 = 0; up2 = 0; down2 = 0; up3 = 0; down3 = 0 }

pub one_inside : (p w len : ℕ) → p + w ≤ len → Inside3 (steps_at p) 1 1 1 w len
one_inside p w len h i3 h3 =
    let z3 = zero-mul i3 in (
      (omega arith, omega arith),
      λ i2 h2. let z2 = zero-mul i2 in (
        (omega arith, omega arith),
        λ i1 h1. let z1 = zero-mul i1 in (omega arith, omega arith),
      ),
    )

pub one_delivered : (t : DataType) (order : ℕ) (offset : ℤ) (asked : ℕ) (s : List ℕ) (p : ℕ)
    → delivered_at t order offset asked s (steps_at p) 1 1 1 ≡ element_bytes t order offset asked (take t.width (drop p s))
unfolding delivered_at joined
one_delivered t order offset asked s p = rw (add-zero p, sub-zero p, add-zero p, sub-zero p, add-zero p, sub-zero p)

low_append : (l z : List ℕ) → low_first z ≡ 0 → low_first (l ++ z) ≡ low_first l
unfolding low_first
low_append [] z e = e
low_append (b ∷ l) z e = ap (λ (n : ℕ). n * 256 + b) (low_append l z e)

low_zeros : (k n : ℕ) → low_first (drop k (replicate n 0)) ≡ 0
unfolding low_first
low_zeros zero zero = refl
low_zeros zero (suc n) = rw (low_zeros zero n)
low_zeros (suc k) zero = refl
low_zeros (suc k) (suc n) = low_zeros k n

pub low_over : (l : List ℕ) (n : ℕ) → low_first (over l (replicate n 0)) ≡ low_first l
low_over l n = low_append l (drop (length l) (replicate n 0)) (low_zeros (length l) n)

pub number_low : (l : List ℕ) → number_of 2 l ≡ low_first l
unfolding number_of
number_low l = refl

-- ---- An index

pub index_inside : (d : Description) (i1 i2 i3 : ℕ) → is_index d i1 i2 i3 ≡ true → (i1 < d.dim1) × (i2 < d.dim2) × (i3 < d.dim3)
unfolding is_index
index_inside d i1 i2 i3 e =
    let p = both_true (ltb i1 d.dim1 && ltb i2 d.dim2) (ltb i3 d.dim3) e in
    let q = both_true (ltb i1 d.dim1) (ltb i2 d.dim2) p.0 in
    (ltb-true i1 d.dim1 q.0, ltb-true i2 d.dim2 q.1, ltb-true i3 d.dim3 p.1)

-- The way to an element: along index 3, then 2, then 1.
pub record Reached (t : Steps) (w len i1 i2 i3 : ℕ) : Type 0 where
  pub plane : Stands t.at t.up3 t.down3 0 len i3
  pub row : Stands (place t.at t.up3 t.down3 i3) t.up2 t.down2 0 len i2
  pub element : Stands (place (place t.at t.up3 t.down3 i3) t.up2 t.down2 i2) t.up1 t.down1 w len i1

pub element_reached : (d : Description) (i1 i2 i3 : ℕ) {w size : ℕ} {t : Steps} → is_index d i1 i2 i3 ≡ true → ValidArray d size
    → w ≡ (array_type d).width → t ≡ steps_of w (order_of 3 d.configuration) d.dim1 d.dim2 d.dim3 → Reached t w size i1 i2 i3
element_reached d i1 i2 i3 {w} {size} {t} e v wide made =
    let h = index_inside d i1 i2 i3 e in
    let plane = steps_hold d size v w wide t made (omega arith) i3 h.2 in
    let row = plane.1 i2 h.1 in
    let element = row.1 i1 h.0 in
    record { plane = plane.0; row = row.0; element = (element.0, omega (arith, element.1)) }

-- ---- The bits that code reads: the number, low byte first, of eight bytes

pub bits_read : (t : DataType) (order : ℕ) (offset : ℤ) (s : List ℕ) (p : ℕ) (b : List ℕ) (n : ℕ)
    → 0 < t.width → p + t.width ≤ length s → Octets s
    → b ≡ over (delivered_at t order offset 2 s (steps_at p) 1 1 1) (replicate 8 0) → n ≡ low_first b
    → (n ≡ element_bits t order offset (take t.width (drop p s))) × (n < 256 ^ t.width)
bits_read t order offset s p b n some inside octets e read =
    let l = take t.width (drop p s) in
    let wide : length l ≡ t.width = length_element t.width s p inside in
    let bytes : Octets l = octets_part p t.width s octets in
    let is : n ≡ element_bits t order offset l =
    read ∙ ap low_first (e ∙ ap (λ (x : List ℕ). over x (replicate 8 0)) (one_delivered t order offset 2 s p))
    ∙ low_over (element_bytes t order offset 2 l) 8 ∙ sym (number_low (element_bytes t order offset 2 l))
    ∙ bits_delivered t order offset l some bytes wide 2 in
    (is, rw is (bits_bound t order offset l some bytes wide))
