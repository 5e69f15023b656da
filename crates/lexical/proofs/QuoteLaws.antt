-- Quotes at the ends of a part of the bytes: the functions take off just those that the relations do.
use mathlib.Core.Path.{◌≡◌, refl, sym, ap, ◌∙◌}
use mathlib.Core.Logic.{◌≢◌}
use mathlib.Core.List.{List, [], ◌∷◌, ◌++◌, append_assoc, nil≢cons, head-eq_of_cons-eq}
use Prim.Native.Nat.{ℕ, suc, ◌+◌, ◌-◌}
use native.Mathlib.Omega.{arith}
use borrow.Author.Tests.{lt-ltb, ne_eqb, eqb-true, eqb-false}
use lib.Dec.{eqb}
use lib.ListN.{length, length-append}
use lib.Seq.{get_or-append_seam}
use Rattle.scan.specs.Byte.{byte}
use Rattle.scan.proofs.Cases.{by_test}
use Rattle.text.specs.Value.{without_opening_quote, without_closing_quote}
use Rattle.lexical.specs.Value.{WithoutLeading, WithoutTrailing, quote, plain}
use Rattle.lexical.proofs.PartLaws.{Part, span_of, part_byte}

-- ---- The leading quote

module _ {raw : List ℕ} {offset : ℕ} where
  first_byte : {b : ℕ} {l : List ℕ} → Part raw offset (b ∷ l) → byte raw offset ≡ b
  first_byte h = let e : offset + 0 ≡ offset = omega arith in rw e at (part_byte h 0 (omega arith))

  pub opening-span : {l m : List ℕ} {n : ℕ} → Part raw offset l → WithoutLeading l n m
      → without_opening_quote raw (span_of offset l) ≡ span_of (offset + n) m
  unfolding without_opening_quote
  opening-span h (quote {l}) =
      let e : suc offset ≡ offset + 1 = omega arith in
      let f : suc (length l) - 1 ≡ length l = omega arith in
      rw (lt-ltb 0 (suc (length l)) (omega arith), first_byte h, e, f)
  opening-span h (plain {l = []} n) = let e : offset + 0 ≡ offset = omega arith in rw e
  opening-span h (plain {l = b ∷ l} n) =
      let e : offset + 0 ≡ offset = omega arith in
      rw (lt-ltb 0 (suc (length l)) (omega arith), first_byte h, ne_eqb b 34 (λ q. n l (rw q)), e)

  pub opening_part : {l m : List ℕ} {n : ℕ} → Part raw offset l → WithoutLeading l n m → Part raw (offset + n) m
  opening_part h (quote {l}) =
      record {
        front = h.front ++ (34 ∷ []);
        back = h.back;
        is = h.is ∙ simp append_assoc;
        stands = omega (arith, h.stands, length-append h.front (34 ∷ []));
      }
  opening_part h (plain n) = record { front = h.front; back = h.back; is = h.is; stands = omega (arith, h.stands) }

pub leading_some : (l : List ℕ) → (n : ℕ) × (m : List ℕ) × WithoutLeading l n m
leading_some [] = (0, [], plain (λ rest. nil≢cons))
leading_some (b ∷ l) =
    by_test (eqb b 34) (λ e. rw (eqb-true b 34 e) (1, l, quote))
    (λ e. (0, b ∷ l, plain (λ rest q. eqb-false b 34 e (head-eq_of_cons-eq q))))

-- ---- The last byte of a list

data Ends : List ℕ → Type 0 where
  nil : Ends []
  at : (l : List ℕ) (last : ℕ) → Ends (l ++ (last ∷ []))

ends_cons : (b : ℕ) {l : List ℕ} → Ends l → Ends (b ∷ l)
ends_cons b nil = at [] b
ends_cons b (at l last) = at (b ∷ l) last

ends : (l : List ℕ) → Ends l
ends [] = nil
ends (b ∷ l) = ends_cons b (ends l)

last_length : (l : List ℕ) (b : ℕ) → length (l ++ (b ∷ [])) ≡ suc (length l)
last_length l b = omega (arith, length-append l (b ∷ []))

last_same : (k l : List ℕ) (b c : ℕ) → k ++ (b ∷ []) ≡ l ++ (c ∷ []) → b ≡ c
last_same k l b c e =
    let n : length k ≡ length l = omega (arith, last_length k b, last_length l c, ap length e) in
    sym (get_or-append_seam k b [] 0) ∙ (rw (e, n) (get_or-append_seam l c [] 0))

-- ---- The trailing quote

module _ {raw : List ℕ} {offset : ℕ} where
  last_byte : (l : List ℕ) (b : ℕ) → Part raw offset (l ++ (b ∷ [])) → byte raw (offset + length (l ++ (b ∷ [])) - 1) ≡ b
  last_byte l b h =
      let e : offset + length (l ++ (b ∷ [])) - 1 ≡ offset + length l = omega (arith, last_length l b) in
      rw e (part_byte h (length l) (omega (arith, last_length l b)) ∙ get_or-append_seam l b [] 0)

  plain_span : {l : List ℕ} → Part raw offset l → Ends l → ((rest : List ℕ) → l ≢ rest ++ (34 ∷ []))
      → without_closing_quote raw (span_of offset l) ≡ span_of offset l
  unfolding without_closing_quote
  plain_span h nil n = refl
  plain_span h (at l b) n =
      rw (lt-ltb 0 (length (l ++ (b ∷ []))) (omega (arith, last_length l b)), last_byte l b h, ne_eqb b 34 (λ q. n l (rw q)))

  pub closing_span : {l m : List ℕ} → Part raw offset l → WithoutTrailing l m
      → without_closing_quote raw (span_of offset l) ≡ span_of offset m
  unfolding without_closing_quote
  closing_span h (quote {l}) =
      let e : length (l ++ (34 ∷ [])) - 1 ≡ length l = omega (arith, last_length l 34) in
      rw (lt-ltb 0 (length (l ++ (34 ∷ []))) (omega (arith, last_length l 34)), last_byte l 34 h, e)
  closing_span h (plain {l} n) = plain_span h (ends l) n

  pub closing_part : {l m : List ℕ} → Part raw offset l → WithoutTrailing l m → Part raw offset m
  closing_part h (quote {l}) =
      record { front = h.front; back = 34 ∷ h.back; is = h.is ∙ simp append_assoc; stands = h.stands }
  closing_part h (plain n) = h

without_last : {l : List ℕ} → Ends l → (m : List ℕ) × WithoutTrailing l m
without_last nil = ([], plain {l = []} (λ rest e. absurd (omega (arith, last_length rest 34, ap length e))))
without_last (at l b) =
    by_test (eqb b 34) (λ e. rw (eqb-true b 34 e) (l, quote))
    (λ e. (l ++ (b ∷ []), plain (λ rest q. eqb-false b 34 e (last_same l rest b 34 q))))

pub trailing_some : (l : List ℕ) → (m : List ℕ) × WithoutTrailing l m
trailing_some l = without_last (ends l)
