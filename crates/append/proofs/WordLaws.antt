-- The words of an identity and of an array's fields.
use mathlib.Core.Path.{◌≡◌, refl, sym, ap, ◌∙◌}
use mathlib.Core.List.{List, [], ◌∷◌, ◌++◌, append_assoc}
use Prim.Native.Nat.{ℕ, zero, suc, ◌-◌, ◌≤◌}
use native.Mathlib.Omega.{arith}
use borrow.Author.Tests.{eq-eqb, ne_eqb, leb-true}
use lib.Dec.{leb}
use lib.IntN.{ℤ, pos, negsuc}
use denote.Bor.{Bor}
use Rattle.std.specs.Prelude.{map}
use lib.ListN.{length, get_or, get_or-map}
use Rattle.scan.specs.Byte.{ascii}
use Rattle.scan.proofs.Below.{all_at}
use Rattle.text.specs.Decimal.{decimal}
use Rattle.blocks.specs.IdentityText.{instance_word, memory_text, identity_text}
use Rattle.raster.specs.Types.{types, type_of, word_of, order_words}

-- ---- The identity

pub instance_psd : (i : ℕ) → i ≡ 1 → ascii "Psd" ≡ instance_word i
unfolding instance_word
instance_psd i e = rw (eq-eqb i 1 e)

pub instance_error : (i : ℕ) → (i ≡ 1 → ⊥) → ascii "Error" ≡ instance_word i
unfolding instance_word
instance_error i e = rw (ne_eqb i 1 e)

pub memory_left_out : (z : ℤ) → z ≡ pos 1 → [] ≡ memory_text z
unfolding memory_text
memory_left_out z e = rw e

pub memory_written : (z : ℤ) → (z ≡ pos 1 → ⊥) → 46 ∷ decimal z ≡ memory_text z
unfolding memory_text
memory_written (pos n) h = rw (ne_eqb n 1 (λ e. h (ap pos e)))
memory_written (negsuc n) h = refl

pub identity_is : (a : ℤ) (i : ℕ) (m : ℤ) → ((decimal a ++ ascii ".Image.") ++ instance_word i) ++ memory_text m ≡ identity_text a i m
unfolding identity_text
identity_is a i m =
    append_assoc (decimal a ++ ascii ".Image.") (instance_word i) (memory_text m)
    ∙ append_assoc (decimal a) (ascii ".Image.") (instance_word i ++ memory_text m)

-- ---- The words

pub order_high : (k : ℕ) → k ≡ 1 → ascii "HighByteFirst" ≡ get_or order_words (k - 1) []
unfolding order_words
order_high k e = rw e

pub order_low : (k : ℕ) → k ≡ 2 → ascii "LowByteFirst" ≡ get_or order_words (k - 1) []
unfolding order_words
order_low k e = rw e

-- The words in a table.
pub word_at : (l : List (Bor (List ℕ))) (b : Bor (List ℕ)) (k : ℕ)
    → (get_or l k b).now ≡ get_or (map (λ (r : Bor (List ℕ)). r.now) l) k b.now
word_at l b k = sym (get_or-map (λ (r : Bor (List ℕ)). r.now) l k b)

pub type_word : (k : ℕ) → get_or (map word_of types) (k - 1) [] ≡ (type_of k).word
unfolding type_of
type_word k = get_or-map word_of types (k - 1) _

-- By one computed test.
pub type_word_short : (k : ℕ) → (1 ≤ k) × (k ≤ 10) → length (type_of k).word ≤ 15
unfolding type_of types
type_word_short zero h = absurd (omega (arith, h))
type_word_short (suc k) h =
    leb-true (length (type_of (suc k)).word) 15 (all_at (λ (k : ℕ). leb (length (type_of (suc k)).word) 15) 10 refl k (omega (arith, h)))
