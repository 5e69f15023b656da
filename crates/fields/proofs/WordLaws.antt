-- The code of a word: its number among the words, and none exactly for an unknown word.
use mathlib.Core.Path.{◌≡◌, refl, sym, subst}
use mathlib.Core.Bool.{false}
use mathlib.Core.List.{List, [], ◌∷◌}
use Prim.Native.Nat.{ℕ, suc, ◌+◌, ◌≤◌}
use native.Mathlib.Omega.{arith}
use lib.ListN.{length}
use Rattle.scan.specs.Byte.{same}
use Rattle.scan.proofs.Cases.{by_test}
use Rattle.scan.proofs.Decides.{decided, refuted, same_decides}
use Rattle.scan.proofs.Finds.{Finds, found, missing, finds_by}
use Rattle.raster.specs.Types.{code_from, code_of}
use Rattle.fields.specs.Field.{IsWord, first, later}

-- Word number k, where the count starts after n.
abbrev Counted : ℕ → List (List ℕ) → List ℕ → ℕ → Type 0
Counted n words v code = (k : ℕ) × (code ≡ n + k) × IsWord words k v

some_words : {words : List (List ℕ)} {k : ℕ} {v : List ℕ} → IsWord words k v → 1 ≤ length words
some_words first = omega arith
some_words (later h) = omega arith

finds_counted : (n : ℕ) (words : List (List ℕ)) (v : List ℕ) → Finds (Counted n words v) (code_from (suc n) words v)
unfolding code_from
finds_counted n [] v = missing (λ c h. omega (arith, some_words h.2))
finds_counted n (w ∷ ws) v =
    by_test (same v w)
    (λ t. rw t (found {x = suc n} (1, omega arith, subst (IsWord (w ∷ ws) 1) (sym (decided (same_decides v w) t)) first)))
    (λ f. rw f
    (finds_by (λ c h. (suc h.0, omega (arith, h.1), later h.2)) (λ c h. back f h.1 h.2) (finds_counted (suc n) ws v)))
  where
    back : {v : List ℕ} {c k : ℕ} → same v w ≡ false → c ≡ n + k → IsWord (w ∷ ws) k v → Counted (suc n) ws v c
    back f e first = absurd (refuted (same_decides w w) f refl)
    back f e (later {n = j} h) = (j, omega arith, h)

pub finds_code : (words : List (List ℕ)) (v : List ℕ) → Finds (λ (code : ℕ). IsWord words code v) (code_of words v)
unfolding code_of
finds_code words v =
    finds_by
    (λ c h. let q : h.0 ≡ c = omega (arith, h.1) in subst (λ (k : ℕ). IsWord words k v) q h.2)
    (λ c h. (c, omega arith, h))
    (finds_counted 0 words v)
