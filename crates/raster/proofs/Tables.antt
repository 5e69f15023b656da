-- The table by the code of a type: its entries are the type's.
use mathlib.Core.Path.{◌≡◌, refl, ◌∙◌}
use mathlib.Core.Logic.{inl, inr}
use mathlib.Core.List.{List, [], ◌∷◌}
use Prim.Native.Nat.{ℕ, zero, suc, ◌-◌, ◌≤◌, ◌<◌}
use native.Mathlib.Omega.{arith}
use lib.ListN.{get_or}
use Rattle.std.specs.Prelude.{slice_get, unwrap_or}
use Rattle.std.proofs.lemmas.Option.{unwrap_or-slice_get}
use Rattle.std.proofs.Math.ListN.{get_or-map}
use Rattle.raster.specs.Strided.{Width}
use Rattle.raster.specs.Types.{class_number, DataType, types, type_of}
use Rattle.raster.specs.declared.types.Class.{Class}
use Rattle.raster.specs.declared.types.Class.TheVariants.{Unsigned as unsigned, Signed as signed, Float as float}

-- ---- The table of widths and classes

abbrev entry : DataType → ℕ × Class
entry t = (t.width, t.class)

-- The code 0 is no type's, and its entry is what is past the end.
abbrev pub table : List (ℕ × Class)
table =
    (1, unsigned)
    ∷ (1, unsigned) ∷ (1, signed)
    ∷ (2, unsigned) ∷ (2, signed)
    ∷ (4, unsigned) ∷ (4, signed) ∷ (4, float)
    ∷ (8, unsigned) ∷ (8, signed) ∷ (8, float) ∷ []

pub table_at : (code : ℕ) → unwrap_or (slice_get table code) (1, unsigned) ≡ ((type_of code).width, (type_of code).class)
unfolding type_of types
table_at zero = refl
table_at (suc code) =
    let e : suc code - 1 ≡ code = omega arith in
    rw e (unwrap_or-slice_get table (suc code) (1, unsigned) ∙ get_or-map entry types code (record { word = []; width = 1; class = unsigned }))

-- ---- Widths and classes

-- Every type has one of the four widths.
abbrev Each : (DataType → Type 0) → List DataType → Type 0
Each P [] = Unit {0}
Each P (t ∷ ts) = P t × Each P ts

each : (P : DataType → Type 0) (d : DataType) (ts : List DataType) (i : ℕ) → Each P ts → P d → P (get_or ts i d)
each P d [] i h k = k
each P d (t ∷ ts) zero (h, more) k = h
each P d (t ∷ ts) (suc i) (h, more) k = each P d ts i more k

pub type_width : (code : ℕ) → Width (type_of code).width
unfolding type_of types
type_width code =
    each (λ (t : DataType). Width t.width) _ types (code - 1)
    (inl refl, (inl refl, (inr (inl refl), (inr (inl refl), (inr (inr (inl refl)), (inr (inr (inl refl)), (inr (inr (inl refl)), (inr (inr (inr refl)), (inr (inr (inr refl)), (inr (inr (inr refl)), tt))))))))))
    (inl refl)

pub width_some : {w : ℕ} → Width w → (0 < w) × (w ≤ 8)
width_some (inl e) = (omega arith, omega arith)
width_some (inr (inl e)) = (omega arith, omega arith)
width_some (inr (inr (inl e))) = (omega arith, omega arith)
width_some (inr (inr (inr e))) = (omega arith, omega arith)

pub type_width_some : (code : ℕ) → 0 < (type_of code).width
type_width_some code = (width_some (type_width code)).0

pub type_width_few : (code : ℕ) → (type_of code).width ≤ 8
type_width_few code = (width_some (type_width code)).1

-- The class is its number.
pub is_signed : (class : Class) → class_number class ≡ 1 → class ≡ signed
is_signed unsigned e = absurd (omega arith)
is_signed signed e = refl
is_signed float e = absurd (omega arith)

pub is_float_lem : (class : Class) → class_number class ≡ 2 → class ≡ float
is_float_lem unsigned e = absurd (omega arith)
is_float_lem signed e = absurd (omega arith)
is_float_lem float e = refl

pub is_unsigned : (class : Class) → class_number class ≡ 0 → class ≡ unsigned
is_unsigned unsigned e = refl
is_unsigned signed e = absurd (omega arith)
is_unsigned float e = absurd (omega arith)
