-- An identity as text is that identity, and a word.
use mathlib.Core.Path.{◌≡◌, refl}
use mathlib.Core.List.{[], ◌∷◌, ◌++◌}
use Prim.Native.Nat.{ℕ, zero, suc, ◌≤◌}
use native.Mathlib.Omega.{arith}
use borrow.Author.Tests.{eqb-true, eqb-false}
use lib.Dec.{eqb}
use lib.IntN.{ℤ, pos}
use lib.ListN.{length, length-append}
use mir.Syntax.{w64}
use mir.Val.{SFits}
use Rattle.scan.specs.Byte.{ascii}
use Rattle.scan.proofs.Cases.{by_test}
use Rattle.text.specs.Decimal.{decimal}
use Rattle.text.proofs.Decimals.{decimal_back, decimal-length}
use Rattle.text.proofs.Everys.{Each}
use Rattle.text.proofs.Parts.{each_nil}
use Rattle.lexical.proofs.WholeLaws.{whole_sound}
use Rattle.text.proofs.Words.{Word, WordByte, word, word_append, decimal_word}
use Rattle.blocks.specs.IdentityText.{instance_word, memory_text, identity_text}
use Rattle.blocks.specs.Values.{Instance, Memory, IsIdentity}

instance_word_lem : (b : ℕ) → 1 ≤ b → b ≤ 2 → Instance (instance_word b) b
unfolding instance_word
instance_word_lem zero low high = absurd (omega arith)
instance_word_lem (suc zero) low high = Instance.psd
instance_word_lem (suc (suc zero)) low high = Instance.error
instance_word_lem (suc (suc (suc b))) low high = absurd (omega arith)

memory_back : (m : ℕ) → 1 ≤ m → SFits w64 (pos m) → Memory (memory_text (pos m)) (pos m)
unfolding memory_text
memory_back m some fits =
    by_test (eqb m 1) (λ e. rw (e, eqb-true m 1 e) Memory.omitted)
    (λ e. rw e (Memory.given (whole_sound (decimal (pos m)) (decimal_back (pos m) fits)) (more (eqb-false m 1 e))))
  where
    more : (m ≡ 1 → ⊥) → 2 ≤ m
    more n = omega arith

module _ (a : ℤ) (b m : ℕ) where
  pub identity_back : SFits w64 a → SFits w64 (pos m) → 1 ≤ b → b ≤ 2 → 1 ≤ m → IsIdentity (identity_text a b (pos m)) a b (pos m)
  unfolding identity_text
  identity_back fits fits-m low high some =
      record {
        number = decimal a;
        word = instance_word b;
        rest = memory_text (pos m);
        is = refl;
        sequence_is = whole_sound (decimal a) (decimal_back a fits);
        instance_is = instance_word_lem b low high;
        memory_is = memory_back m some fits-m;
      }

  -- ---- Its bytes

  instance_bytes : Word (instance_word b)
  unfolding instance_word
  instance_bytes = by_test (eqb b 1) (λ e. rw e (word (ascii "Psd") (omega arith) refl)) (λ e. rw e (word (ascii "Error") (omega arith) refl))

  memory_bytes : Each WordByte (memory_text (pos m))
  unfolding memory_text
  memory_bytes =
      by_test (eqb m 1) (λ e. rw e (each_nil WordByte))
      (λ e. rw e (word_append (word (46 ∷ []) (omega arith) refl) (decimal_word (pos m)).bytes).bytes)

  pub identity_word : Word (identity_text a b (pos m))
  unfolding identity_text
  identity_word =
      word_append (decimal_word a) (word_append (word (ascii ".Image.") (omega arith) refl)
      (word_append instance_bytes memory_bytes).bytes).bytes

  -- ---- Its length

  instance_length : length (instance_word b) ≤ 5
  unfolding instance_word
  instance_length = by_test (eqb b 1) (λ e. rw e (omega arith)) (λ e. rw e (omega arith))

  memory_length : length (memory_text (pos m)) ≤ 21
  unfolding memory_text
  memory_length = by_test (eqb m 1) (λ e. rw e (omega arith)) (λ e. rw e (omega (arith, decimal-length (pos m))))

  pub identity_length : length (identity_text a b (pos m)) ≤ 53
  unfolding identity_text
  identity_length =
      omega (
        arith,
        length-append (decimal a) (ascii ".Image." ++ (instance_word b ++ memory_text (pos m))),
        length-append (instance_word b) (memory_text (pos m)),
        decimal-length a,
        instance_length,
        memory_length,
      )
