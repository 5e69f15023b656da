-- The tests of a frame, one after another.
use mathlib.Core.Path.{◌≡◌, refl, sym}
use mathlib.Core.Bool.{Bool, true, false, ◌&&◌, false≢true}
use mathlib.Core.List.{List, [], ◌∷◌}
use Prim.Native.Nat.{ℕ, zero, suc, ◌≤◌, ◌<◌}
use native.Mathlib.Omega.{arith}
use lib.Signed.{le_z}
use Rattle.std.specs.Prelude.{◌↔◌, IsTrue, EachIndex, slice_index}
use Rattle.scan.proofs.Cases.{by_test, both_true}
use lib.IntN.{ℤ, pos, negsuc}
use lib.ListN.{length, get_or}
use Rattle.text.specs.Text.{every}
use Rattle.array.specs.Delivery.{is_order}
use Rattle.scan.proofs.Decides.{decided, decides_and, leb_decides}
use Rattle.frame.specs.File.{within, positive_memory}
use Rattle.frame.specs.declared.Frame.{Frame}

module _ {a : Bool} (b : Bool) where
  pub and_then : a ≡ true → b ≡ (a && b)
  and_then e = rw e

  pub and_else : a ≡ false → false ≡ (a && b)
  and_else e = rw e

pub memory_decides : (z : ℤ) → le_z (pos 1) z ≡ positive_memory z
memory_decides (pos n) = refl
memory_decides (negsuc n) = refl

-- The codes of a frame.
abbrev pub codes : Frame → Bool
codes f = within 1 10 f.datatype && is_order f.byteorder && within 1 2 f.instance && positive_memory f.memory

-- ---- The Dims

every_each : (p : ℕ → Bool) (l : List ℕ) → every p l ≡ true → (k : ℕ) → k < length l → p (get_or l k 0) ≡ true
every_each p [] h k l = absurd (omega (arith, l))
every_each p (x ∷ xs) h zero l = (both_true (p x) (every p xs) h).0
every_each p (x ∷ xs) h (suc k) l = every_each p xs (both_true (p x) (every p xs) h).1 k (omega (arith, l))

each_every : (p : ℕ → Bool) (l : List ℕ) → ((k : ℕ) → k < length l → p (get_or l k 0) ≡ true) → every p l ≡ true
each_every p [] h = refl
each_every p (x ∷ xs) h =
    rw (h 0 (omega arith)) (each_every p xs (λ k l. h (suc k) (omega (arith, l))))

pub every_is : (p : ℕ → Bool) (l : List ℕ) (r : Bool) → (IsTrue r ↔ EachIndex l (λ k. IsTrue (p (slice_index l k)))) → r ≡ every p l
every_is p l true h = sym (each_every p l (h.0 refl))
every_is p l false h = by_test (every p l) (λ t. absurd (false≢true (h.1 (every_each p l t)))) sym

-- A number of dimensions.
pub few : (n : ℕ) → within 1 3 n ≡ true → (1 ≤ n) × (n ≤ 3)
few n e = decided (decides_and (leb_decides 1 n) (leb_decides n 3)) e
