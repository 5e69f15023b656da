-- Chains that are moved, contiguous chains, and where the things in a chain stand.
use mathlib.Core.Path.{◌≡◌}
use mathlib.Core.Logic.{⊎_elim}
use mathlib.Core.List.Memᴰ
use mathlib.Core.List.{List, [], ◌∷◌, ◌++◌, map, Memᴰ}
use Prim.Native.Nat.{ℕ, ◌+◌, ◌≤◌, ◌<◌}
use native.Mathlib.Omega.{arith}
use Rattle.scan.specs.Chain.{Chain}

-- Links that hold where they are moved by n make a chain there.
module _ {A : Type 0} (Link Other : ℕ → A → ℕ → Type 0) (Stop Halt : ℕ → Type 0) (move : A → A) (n : ℕ)
    (holds : (at : ℕ) (x : A) (next : ℕ) → Link at x next → Other (n + at) (move x) (n + next)) (stops : (at : ℕ) → Stop at → Halt (n + at)) where
  pub chain_moved : (from : ℕ) (xs : List A) → Chain Link Stop from xs → Chain Other Halt (n + from) (map move xs)
  chain_moved from [] c = stops from c
  chain_moved from (x ∷ xs) c = (n + c.0, holds from x c.0 c.1, chain_moved c.0 xs c.2)

-- A chain up to an offset, and one from there on.
module _ {A : Type 0} (Link : ℕ → A → ℕ → Type 0) (Stop : ℕ → Type 0) (middle : ℕ) (ys : List A) (rest : Chain Link Stop middle ys) where
  pub chain_joined : (from : ℕ) (xs : List A) → Chain Link (λ at. at ≡ middle) from xs → Chain Link Stop from (xs ++ ys)
  chain_joined from [] c = rw c rest
  chain_joined from (x ∷ xs) c = (c.0, c.1, chain_joined c.0 xs c.2)

-- Each of the things in a chain stands behind where the chain starts.
module _ {A : Type 0} (Link : ℕ → A → ℕ → Type 0) (Stop : ℕ → Type 0) (on : (at : ℕ) (x : A) (next : ℕ) → Link at x next → at < next) where
  pub chain_behind : (from : ℕ) (xs : List A) {x : A} → Chain Link Stop from xs → Memᴰ x xs
      → (at : ℕ) × (next : ℕ) × (from ≤ at) × Link at x next
  chain_behind from [] c m = absurd (Memᴰ.not-nil m)
  chain_behind from (y ∷ ys) c m =
      ⊎_elim (λ e. (from, c.0, omega arith, rw e c.1))
      (λ t.
      let r = chain_behind c.0 ys c.2 t in
      (r.0, r.1, omega (arith, r.2, on from y c.0 c.1), r.3))
      (Memᴰ.cases_cons m)
