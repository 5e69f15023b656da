-- Rows by their numbers, in lists that are moved and joined; rows and spans that are moved by nothing.
use Rattle.std.specs.Prelude.{Some, slice_get}
use Rattle.std.proofs.lemmas.Option.{same_Some}
use mathlib.Core.Path.{◌≡◌, sym, ap}
use mathlib.Core.List.{List, [], ◌∷◌, ◌++◌, map, Memᴰ}
use Prim.Native.Nat.{ℕ, zero, suc, ◌+◌}
use native.Mathlib.Omega.{arith}
use lib.ListN.{length}
use Rattle.scan.specs.declared.Span.{Span}
use Rattle.scan.proofs.Cases.{none_some}
use Rattle.blocks.specs.declared.Row.{Row}
use Rattle.locality.specs.Moved.{moved_span, starting_at, moved_row}

module _ {A : Type 0} where
  pub member_at : (l : List A) (k : ℕ) {x : A} → slice_get l k ≡ Some x → Memᴰ x l
  member_at [] k e = absurd (none_some e)
  member_at (y ∷ l) zero {x} e = Memᴰ.head (sym (same_Some y x e))
  member_at (y ∷ l) (suc k) e = Memᴰ.tail (member_at l k e)

  -- Of the first of two lists,
  pub front_at : (l m : List A) (k : ℕ) {x : A} → slice_get l k ≡ Some x → slice_get (l ++ m) k ≡ Some x
  front_at [] m k e = absurd (none_some e)
  front_at (y ∷ l) m zero e = e
  front_at (y ∷ l) m (suc k) e = front_at l m k e

  -- and of the second.
  pub back_at : (l m : List A) (k : ℕ) {x : A} → slice_get m k ≡ Some x → slice_get (l ++ m) (length l + k) ≡ Some x
  back_at [] m k e = let z : 0 + k ≡ k = omega arith in rw z e
  back_at (y ∷ l) m k e = let z : suc (length l) + k ≡ suc (length l + k) = omega arith in rw z (back_at l m k e)

  pub map_at : {B : Type 0} (f : A → B) (l : List A) (k : ℕ) {x : A} → slice_get l k ≡ Some x → slice_get (map f l) k ≡ Some (f x)
  map_at f [] k e = absurd (none_some e)
  map_at f (y ∷ l) zero {x} e = ap (λ (z : A). Some (f z)) (same_Some y x e)
  map_at f (y ∷ l) (suc k) e = map_at f l k e

pub row_unmoved : (row : Row) → moved_row 0 row ≡ row
row_unmoved row = let z : 0 + row.start ≡ row.start = omega arith in ap (λ (k : ℕ). starting_at k row) z

pub span_unmoved : (p : Span) → moved_span 0 p ≡ p
span_unmoved p = let z : 0 + p.offset ≡ p.offset = omega arith in λ i. record { offset = z i; length = p.length }
