-- The three dimensions of a frame that may be written.
use mathlib.Core.Path.{◌≡◌, refl, sym, ap, ◌∙◌}
use mathlib.Core.Bool.{true}
use mathlib.Core.List.{[], ◌∷◌}
use Prim.Native.Nat.{ℕ, zero, suc, ◌+◌, ◌*◌, ◌≤◌, ◌<◌}
use native.Mathlib.Nat.{mul-suc, mul-le-mul_left}
use native.Mathlib.Omega.{arith}
use lib.ListN.{take}
use Rattle.scan.proofs.Decides.{decided}
use Rattle.text.proofs.Everys.{Each}
use Rattle.text.proofs.Parts.{each_head, each_tail}
use Rattle.raster.specs.Position.{product}
use Rattle.frame.specs.File.{frame_dims, frame_allowed}
use Rattle.description.specs.Limits.{dim_limit}
use Rattle.frame.specs.Shape.{shape_dims, IsShape}
use Rattle.frame.specs.declared.Frame.{Frame}
use Rattle.frame.specs.declared.dims.Shape.{Shape}
use Rattle.frame.proofs.Allowed.{Within, Allowed, allowed_decides}

module _ (f : Frame) (ok : frame_allowed f ≡ true) where
  pub allowed : Allowed f
  allowed = decided (allowed_decides f) ok

  pub shape_one : f.n ≡ 1 → IsShape f (record { dim1 = f.dim1; dim2 = 1; dim3 = 1 })
  shape_one e =
      let ds : Each (Within 1 dim_limit) (f.dim1 ∷ []) = rw e at allowed.dims in
      let one = each_head ds in
      record {
        dims = rw e;
        second = λ h. refl;
        third = λ h. refl;
        small = record { some1 = one.low; some2 = omega arith; some3 = omega arith; few1 = one.high; few2 = omega arith; few3 = omega arith };
      }

  pub shape_two : f.n ≡ 2 → IsShape f (record { dim1 = f.dim1; dim2 = f.dim2; dim3 = 1 })
  shape_two e =
      let ds : Each (Within 1 dim_limit) (f.dim1 ∷ f.dim2 ∷ []) = rw e at allowed.dims in
      let one = each_head ds in
      let two = each_head (each_tail ds) in
      record {
        dims = rw e;
        second = λ h. absurd (omega arith);
        third = λ h. refl;
        small = record { some1 = one.low; some2 = two.low; some3 = omega arith; few1 = one.high; few2 = two.high; few3 = omega arith };
      }

  pub shape_three : 3 ≤ f.n → IsShape f (record { dim1 = f.dim1; dim2 = f.dim2; dim3 = f.dim3 })
  shape_three h =
      let e : f.n ≡ 3 = omega (arith, allowed.n.high) in
      let ds : Each (Within 1 dim_limit) (f.dim1 ∷ f.dim2 ∷ f.dim3 ∷ []) = rw e at allowed.dims in
      let one = each_head ds in
      let two = each_head (each_tail ds) in
      let three = each_head (each_tail (each_tail ds)) in
      record {
        dims = refl;
        second = λ h. absurd (omega arith);
        third = λ h. absurd (omega arith);
        small = record { some1 = one.low; some2 = two.low; some3 = three.low; few1 = one.high; few2 = two.high; few3 = three.high };
      }

-- ---- Fewer dimensions than three

pub few_product : (d1 d2 d3 n : ℕ) → 1 ≤ n → n ≤ 3 → (n < 2 → d2 ≡ 1) → (n < 3 → d3 ≡ 1)
    → product (take n (d1 ∷ d2 ∷ d3 ∷ [])) ≡ product (d1 ∷ d2 ∷ d3 ∷ [])
unfolding product
few_product d1 d2 d3 zero low few e2 e3 = absurd (omega arith)
few_product d1 d2 d3 (suc zero) low few e2 e3 = rw (e2 (omega arith), e3 (omega arith))
few_product d1 d2 d3 (suc (suc zero)) low few e2 e3 = rw (e3 (omega arith))
few_product d1 d2 d3 (suc (suc (suc zero))) low few e2 e3 = refl
few_product d1 d2 d3 (suc (suc (suc (suc n)))) low few e2 e3 = absurd (omega arith)

pub shape_total : (f : Frame) (s : Shape) → Allowed f → IsShape f s → product (frame_dims f) ≡ product (shape_dims s)
shape_total f s allowed shape =
    ap product (sym shape.dims)
    ∙ few_product s.dim1 s.dim2 s.dim3 f.n allowed.n.low allowed.n.high shape.second shape.third

-- A position in a row, and the row's number, are a position below the product.
pub below : (c d p e : ℕ) → c < d → p < e → c + d * p < d * e
below c d p e h k = omega (arith, mul-suc d p, mul-le-mul_left d k)
