-- The words of the types and byte orders: each is a word, and its code is the code that it is taken by. From one computed test.
use Rattle.std.specs.Prelude.{Option, None, Some}
use mathlib.Core.Path.{◌≡◌, refl, ap, subst}
use mathlib.Core.Bool.{Bool, true, false, ◌&&◌, false≢true}
use mathlib.Core.List.{List, []}
use Prim.Native.Nat.{ℕ, suc, ◌-◌, ◌≤◌, ◌<◌}
use native.Mathlib.Omega.{arith}
use borrow.Author.Tests.{eqb-true, leb-true}
use lib.Dec.{eqb, leb}
use lib.ListN.{length, get_or}
use Rattle.scan.proofs.Cases.{both_true}
use Rattle.scan.specs.Byte.{same}
use Rattle.scan.proofs.Below.{all_at}
use Rattle.text.specs.Text.{every}
use Rattle.text.proofs.Words.{Word, word_byte, word}
use Rattle.raster.specs.Types.{types, type_of, type_words, order_words, code_from, code_of}
use Rattle.frame.proofs.Allowed.{Within}

-- A word of at most 20 bytes with a code.
abbrev is_code : ℕ → Option ℕ → Bool
is_code k None = false
is_code k (Some c) = eqb c k

code_is : (k : ℕ) (o : Option ℕ) → is_code k o ≡ true → o ≡ Some k
code_is k None e = absurd (false≢true e)
code_is k (Some c) e = ap Some (eqb-true c k e)

pub record Coded (words : List (List ℕ)) (code : ℕ) (w : List ℕ) : Type 0 where
  pub is_word : Word w
  pub short : length w ≤ 20
  pub code_is : code_of words w ≡ Some code

abbrev coded : List (List ℕ) → ℕ → List ℕ → Bool
coded words code w = every word_byte w && (leb 1 (length w) && (leb (length w) 20 && is_code code (code_of words w)))

coded_says : (words : List (List ℕ)) (code : ℕ) (w : List ℕ) → coded words code w ≡ true → Coded words code w
coded_says words code w e =
    let a = both_true (every word_byte w) _ e in
    let b = both_true (leb 1 (length w)) _ a.1 in
    let c = both_true (leb (length w) 20) _ b.1 in
    record { is_word = word w (leb-true 1 (length w) b.0) a.0; short = leb-true (length w) 20 c.0; code_is = code_is code (code_of words w) c.1 }

from_one : {most code : ℕ} (P : ℕ → Type 0) → Within 1 most code → ((k : ℕ) → k < most → P (suc k)) → P code
from_one {code = code} P h f =
    let e : suc (code - 1) ≡ code = omega (arith, h.low) in
    subst P e (f (code - 1) (omega (arith, h.low, h.high)))

pub type_coded : (code : ℕ) → Within 1 10 code → Coded type_words code (type_of code).word
unfolding type_words types type_of code_of code_from same
type_coded code h =
    from_one (λ c. Coded type_words c (type_of c).word) h (λ k l. coded_says type_words (suc k) (type_of (suc k)).word
    (all_at (λ k. coded type_words (suc k) (type_of (suc k)).word) 10 refl k l))

pub order_coded : (code : ℕ) → Within 1 2 code → Coded order_words code (get_or order_words (code - 1) [])
unfolding order_words code_of code_from same
order_coded code h =
    from_one (λ c. Coded order_words c (get_or order_words (c - 1) [])) h (λ k l. coded_says order_words (suc k) (get_or order_words (suc k - 1) [])
    (all_at (λ k. coded order_words (suc k) (get_or order_words (suc k - 1) [])) 2 refl k l))

-- A type is one byte wide at least.
pub type_wide : (code : ℕ) → Within 1 10 code → 1 ≤ (type_of code).width
unfolding types type_of
type_wide code h =
    from_one (λ c. 1 ≤ (type_of c).width) h (λ k l. leb-true 1 (type_of (suc k)).width (all_at (λ k. leb 1 (type_of (suc k)).width) 10 refl k l))

-- And eight at most.
pub type_narrow : (code : ℕ) → Within 1 10 code → (type_of code).width ≤ 8
unfolding types type_of
type_narrow code h =
    from_one (λ c. (type_of c).width ≤ 8) h (λ k l. leb-true (type_of (suc k)).width 8 (all_at (λ k. leb (type_of (suc k)).width 8) 10 refl k l))
