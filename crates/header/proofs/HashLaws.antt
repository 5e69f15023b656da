-- The hash of a key, byte by byte of the file; and what an insertion keeps of the hash table.
use mathlib.Core.Path.{◌≡◌, sym, ap, subst, ◌∙◌}
use mathlib.Core.Logic.{◌≢◌}
use mathlib.Core.Bool.{Bool, true, false, true≢false}
use mathlib.Core.List.{List}
use Prim.Native.Nat.{ℕ, ◌+◌, ◌≤◌, ◌<◌}
use native.Mathlib.Numerals.{add-one}
use native.Mathlib.Omega.{arith}
use lib.ListN.{length, get_or, set, length-set, drop, drop_of_length-le}
use lib.Seq.{drop-cons, get_or-set_same, get_or-set_other}
use Rattle.scan.specs.Byte.{byte}
use Rattle.scan.proofs.Cases.{by_order, by_test}
use Rattle.text.specs.Key.{strip, key_of}
use Rattle.text.specs.Whitespace.{whitespace}
use Rattle.header.specs.Hash.{mixed_key_byte, hash_from, Contains, Inserted}

-- ---- The hash

module _ (l : List ℕ) (h i : ℕ) where
  pub hash_end : length l ≤ i → hash_from h (key_of (drop i l)) ≡ h
  unfolding hash_from key_of strip
  hash_end o = rw (drop_of_length-le l o)

  pub hash_more : (g : ℕ) → i < length l → g ≡ mixed_key_byte h (byte l i)
      → hash_from h (key_of (drop i l)) ≡ hash_from g (key_of (drop (i + 1) l))
  unfolding hash_from key_of strip mixed_key_byte
  hash_more g o e =
      by_test (whitespace (byte l i))
      (λ w. rw (e, add-one i, drop-cons l i 0 o, w))
      (λ w. rw (e, add-one i, drop-cons l i 0 o, w))

-- ---- The table

-- The slots from one up to, not including, another are neither empty nor hold h.
abbrev pub Probed : List ℕ → ℕ → ℕ → ℕ → Type 0
Probed l slot h i = (k : ℕ) → slot ≤ k → k < i → (get_or l k 0 ≢ 0) × (get_or l k 0 ≢ h)

pub probed_more : (l : List ℕ) (slot h i : ℕ) → Probed l slot h i → get_or l i 0 ≢ 0 → get_or l i 0 ≢ h → Probed l slot h (i + 1)
probed_more l slot h i p a b k x y =
    by_order i k (λ le. let e : k ≡ i = omega arith in rw e (a, b)) (λ lt. p k x lt)

-- The table of the loop is the table at entry.
pub at_entry : {l l₀ l' : List ℕ} {slot h : ℕ} {r : Bool} → l ≡ l₀ → Inserted l l' slot h r → Inserted l₀ l' slot h r
at_entry {l' = l'} {slot = slot} {h = h} {r = r} e a = subst (λ (m : List ℕ). Inserted m l' slot h r) e a

module _ (l : List ℕ) (slot h : ℕ) where
  unchanged : Contains l slot h → Inserted l l slot h true
  unchanged c = record { contained = c; kept = λ m g x. x; new = λ e x. true≢false e }

  pub insert_zero : h ≡ 0 → Inserted l l slot h true
  insert_zero z = unchanged (λ n. absurd (n z))

  module _ (i : ℕ) (from : slot ≤ i) (probed : Probed l slot h i) where
    pub insert_there : get_or l i 0 ≡ h → Inserted l l slot h true
    insert_there e = unchanged there
      where
        there : Contains l slot h
        there n j a b z =
            by_order j i
            (λ le. by_order i j
            (λ ge. let q : i ≡ j = omega arith in absurd (n (sym e ∙ ap (λ (x : ℕ). get_or l x 0) q ∙ z)))
            (λ lt. absurd ((probed j a lt).0 z)))
            (λ lt. (i, from, lt, e))

    pub insert-full : length l ≤ i → Inserted l l slot h true
    insert-full o = unchanged (λ n j a b z. absurd ((probed j a (omega arith)).0 z))

    module _ (inside : i < length l) (empty : get_or l i 0 ≡ 0) (some : h ≢ 0) where
      -- The slot that was empty holds h now.
      filled : (j : ℕ) → j ≡ i → get_or (set l i h) j 0 ≡ 0 → ⊥
      filled j q z = some (sym (get_or-set_same l i h 0 inside) ∙ ap (λ (y : ℕ). get_or (set l i h) y 0) (sym q) ∙ z)

      kept_one : (m g : ℕ) → Contains l m g → Contains (set l i h) m g
      kept_one m g x n j a b z =
          by_order i j
          (λ le. by_order j i (λ ge. absurd (filled j (omega arith) z)) (λ lt. other j (omega arith) a b z))
          (λ lt. other j (omega arith) a b z)
        where
          other : (j : ℕ) → j ≢ i → m ≤ j → j < length (set l i h) → get_or (set l i h) j 0 ≡ 0
              → (k : ℕ) × (m ≤ k) × (k < j) × (get_or (set l i h) k 0 ≡ g)
          other j d a b z =
              let f = x n j a (omega (arith, length-set l i h)) (sym (get_or-set_other l i j h 0 d) ∙ z) in
              let still = get_or-set_other l i f.0 h 0 (λ q. n (sym f.3 ∙ ap (λ (y : ℕ). get_or l y 0) q ∙ empty)) in
              (f.0, f.1, f.2, still ∙ f.3)

      pub insert-new : Inserted l (set l i h) slot h false
      insert-new = record { contained = there; kept = kept_one; new = λ e x. no-earlier (x some i from inside empty) }
        where
          there : Contains (set l i h) slot h
          there n j a b z =
              by_order j i
              (λ le. by_order i j (λ ge. absurd (filled j (omega arith) z))
              (λ lt. absurd ((probed j a lt).0 (sym (get_or-set_other l i j h 0 (λ q. omega arith)) ∙ z))))
              (λ lt. (i, from, lt, get_or-set_same l i h 0 inside))

          no-earlier : (k : ℕ) × (slot ≤ k) × (k < i) × (get_or l k 0 ≡ h) → ⊥
          no-earlier f = (probed f.0 f.1 f.2).1 f.3
