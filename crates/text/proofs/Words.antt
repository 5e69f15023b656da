-- Words: bytes that are neither whitespace nor quotes, nor end a key or a value. Keys, numbers and names are words.
use mathlib.Core.Path.{◌≡◌, refl, ap}
use mathlib.Core.Bool.{Bool, true, false, not, ◌&&◌}
use mathlib.Core.Logic.{◌≢◌}
use mathlib.Core.List.{List, [], ◌∷◌, ◌++◌}
use Prim.Native.Nat.{ℕ, ◌-◌, ◌≤◌, ◌<◌}
use native.Mathlib.Omega.{arith}
use borrow.Author.Tests.{ne_eqb, le-leb, lt-leb, eqb-true}
use lib.Dec.{eqb, leb}
use lib.IntN.{ℤ}
use lib.ListN.{length, length-append, length-map}
use Rattle.scan.specs.Byte.{byte}
use Rattle.scan.proofs.Cases.{by_test}
use Rattle.scan.proofs.Decides.{Decides, decided, decides_and, decides_not, decides_by, eqb_decides, leb_decides}
use Rattle.text.specs.Decimal.{decimal}
use Rattle.text.specs.Fold.{fold}
use Rattle.text.specs.Key.{strip, key_of}
use Rattle.text.specs.Number.{digit}
use Rattle.text.specs.Text.{every}
use Rattle.text.specs.Value.{value_of}
use Rattle.text.specs.Whitespace.{whitespace}
use Rattle.text.proofs.Decimals.{decimal_byte, decimal_some, decimal_plain}
use Rattle.text.proofs.Everys.{Each, every_decides}
use Rattle.text.proofs.Numbers.{digit_range}
use Rattle.text.proofs.Padding.{Solid, spaced, plain_value}
use Rattle.text.proofs.Parts.{each_append, each-byte, each_head, each_tail, every-each}

-- From `-` to `z`, but for `;` and `=`.
pub record WordByte (b : ℕ) : Type 0 where
  pub low : 45 ≤ b
  pub high : b ≤ 122
  pub not_end : b ≢ 59
  pub not_equals : b ≢ 61

pub record Word (l : List ℕ) : Type 0 where
  pub some : 1 ≤ length l
  pub bytes : Each WordByte l

-- ---- What is a word

abbrev pub word_byte : ℕ → Bool
word_byte b = leb 45 b && (leb b 122 && (not (eqb b 59) && not (eqb b 61)))

word_byte_decides : (b : ℕ) → Decides (WordByte b) (word_byte b)
word_byte_decides b =
    decides_by
    (λ h. record { low = h.0; high = h.1.0; not_end = h.1.1.0; not_equals = h.1.1.1 })
    (λ h. (h.low, (h.high, (h.not_end, h.not_equals))))
    (decides_and (leb_decides 45 b) (decides_and (leb_decides b 122)
    (decides_and (decides_not (eqb_decides b 59)) (decides_not (eqb_decides b 61)))))

-- A list that passes the test: for a name, by computing.
pub word : (l : List ℕ) → 1 ≤ length l → every word_byte l ≡ true → Word l
word l some e = record { some = some; bytes = decided (every_decides WordByte word_byte_decides l) e }

pub word_append : {k l : List ℕ} → Word k → Each WordByte l → Word (k ++ l)
word_append {k} {l} g h = record { some = omega (arith, length-append k l, g.some); bytes = each_append g.bytes h }

-- A decimal is a word.
decimal-byte : (b : ℕ) → decimal_byte b ≡ true → WordByte b
decimal-byte b e =
    by_test (digit b)
    (λ d. let r = digit_range b d in
    record { low = omega arith; high = omega arith; not_end = λ q. omega arith; not_equals = λ q. omega arith })
    (λ d. let minus : b ≡ 45 = eqb-true b 45 (rw d at e) in
    record { low = omega arith; high = omega arith; not_end = λ q. omega arith; not_equals = λ q. omega arith })

pub decimal_word : (z : ℤ) → Word (decimal z)
decimal_word z =
    record { some = decimal_some z; bytes = λ b m. decimal-byte b (every-each decimal_byte (decimal z) (decimal_plain z) b m) }

-- ---- What a word is: it has no whitespace and no quote, so it is its own key up to folding, and its own value.

word_visible : {b : ℕ} → WordByte b → whitespace b ≡ false
unfolding whitespace
word_visible {b} h = rw (ne_eqb b 32 (λ e. omega (arith, h.low)), le-leb 9 b (omega (arith, h.low)), lt-leb b 13 (omega (arith, h.low)))

strip_word : (l : List ℕ) → Each WordByte l → strip l ≡ l
unfolding strip
strip_word [] h = refl
strip_word (b ∷ l) h = rw (word_visible (each_head h)) (ap (λ (r : List ℕ). b ∷ r) (strip_word l (each_tail h)))

pub word_key-length : (l : List ℕ) → Word l → length (key_of l) ≡ length l
unfolding key_of
word_key-length l h = rw (strip_word l h.bytes) (length-map l fold)

word_solid : (l : List ℕ) → Word l → Solid l
word_solid l h =
    record {
      some = h.some;
      first = word_visible (each-byte l h.bytes 0 h.some);
      last = word_visible (each-byte l h.bytes (length l - 1) (omega (arith, h.some)));
    }

word_unquoted : (l : List ℕ) → Word l → (k : ℕ) → k < length l → eqb (byte l k) 34 ≡ false
word_unquoted l h k i = ne_eqb (byte l k) 34 (λ e. omega (arith, (each-byte l h.bytes k i).low))

pub word_read : (l : List ℕ) → Word l → value_of (spaced l) ≡ l
word_read l h =
    plain_value l (word_solid l h) (word_unquoted l h 0 h.some) (word_unquoted l h (length l - 1) (omega (arith, h.some)))
