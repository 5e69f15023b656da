-- Whitespace around a key or a value changes nothing.
use mathlib.Core.Path.{◌≡◌, refl, ap, ◌∙◌}
use mathlib.Core.Bool.{true, false}
use mathlib.Core.List.{List, [], ◌∷◌, ◌++◌, append_assoc, append-nil}
use Prim.Native.Nat.{ℕ, zero, suc, ◌+◌, ◌-◌, ◌≤◌, zero-le, suc-le-suc}
use native.Mathlib.Omega.{arith}
use borrow.Author.Tests.{lt-ltb}
use lib.Dec.{eqb}
use lib.ListN.{length, length-append, get_or-append}
use lib.Seq.{get_or-append_seam, take-append_seam}
use Rattle.scan.specs.Byte.{byte}
use Rattle.scan.proofs.Cases.{by_test}
use Rattle.text.specs.Key.{strip, key_of}
use Rattle.text.specs.Value.{leading, trimmed_end, trimmed, without_opening_quote, without_closing_quote, value_span, value_of}
use Rattle.text.specs.Whitespace.{whitespace}
use Rattle.text.proofs.Everys.{Each}
use Rattle.text.proofs.Parts.{each_head, each_tail}

-- ---- Keys

-- Whitespace only.
abbrev pub Blank : List ℕ → Type 0
Blank l = Each (λ b. whitespace b ≡ true) l

strip-append : (k l : List ℕ) → strip (k ++ l) ≡ strip k ++ strip l
unfolding strip
strip-append [] l = refl
strip-append (b ∷ k) l =
    by_test (whitespace b) (λ e. rw e (strip-append k l)) (λ e. rw e (ap (λ (r : List ℕ). b ∷ r) (strip-append k l)))

strip_blank : (w : List ℕ) → Blank w → strip w ≡ []
unfolding strip
strip_blank [] h = refl
strip_blank (b ∷ w) h = rw (each_head h) (strip_blank w (each_tail h))

pub key_padded : (w k v : List ℕ) → Blank w → Blank v → key_of (w ++ (k ++ v)) ≡ key_of k
unfolding key_of
key_padded w k v g h =
    rw (strip-append w (k ++ v), strip-append k v, strip_blank w g, strip_blank v h, append-nil (strip k))

-- ---- Values

-- A value with a space on either side.
abbrev pub spaced : List ℕ → List ℕ
spaced v = 32 ∷ v ++ (32 ∷ [])

-- It starts and ends with a visible byte.
pub record Solid (v : List ℕ) : Type 0 where
  pub some : 1 ≤ length v
  pub first : whitespace (byte v 0) ≡ false
  pub last : whitespace (byte v (length v - 1)) ≡ false

leading_solid : (v u : List ℕ) → Solid v → leading (v ++ u) ≡ 0
unfolding leading
leading_solid [] u h = absurd (omega (arith, h.some))
leading_solid (b ∷ v) u h = rw h.first

module _ (v : List ℕ) where
  spaced_length : length (v ++ (32 ∷ [])) ≡ suc (length v)
  spaced_length = omega (arith, length-append v (32 ∷ []))

  spaced_end : byte (spaced v) (suc (length v)) ≡ 32
  spaced_end = get_or-append_seam v 32 [] 0

  module _ (h : Solid v) where
    -- The byte before the last space.
    last_byte : byte (spaced v) (length v) ≡ byte v (length v - 1)
    last_byte =
        let e : length v ≡ suc (length v - 1) = omega (arith, h.some) in
        ap (byte (spaced v)) e ∙ get_or-append v (32 ∷ []) 0 (length v - 1) (omega (arith, h.some))

    -- Just the spaces are trimmed.
    pub spaces_trimmed : trimmed (spaced v) ≡ record { offset = 1; length = length v }
    unfolding trimmed leading trimmed_end whitespace
    spaces_trimmed =
        rw (spaced_length, spaced_end, last_byte, h.last, leading_solid v (32 ∷ []) h)
        (λ i. record { offset = 1; length = whole i })
      where
        whole : suc (length v) - 1 ≡ length v
        whole = omega arith

    -- Without quotes at its ends it is the value,
    pub plain_value : eqb (byte v 0) 34 ≡ false → eqb (byte v (length v - 1)) 34 ≡ false → value_of (spaced v) ≡ v
    unfolding value_of value_span without_opening_quote without_closing_quote
    plain_value first last =
        let place : 1 + length v - 1 ≡ length v = omega arith in
        let front : byte (spaced v) 1 ≡ byte v 0 = get_or-append v (32 ∷ []) 0 0 h.some in
        rw (spaces_trimmed, lt-ltb 0 (length v) h.some, front, first, lt-ltb 0 (length v) h.some, place, last_byte, last)
        (take-append_seam v (32 ∷ []))

-- and in quotes what stands between them is.
module _ (l : List ℕ) where
  abbrev pub in_quotes : List ℕ
  in_quotes = 34 ∷ l ++ (34 ∷ [])

  quoted_length : length (l ++ (34 ∷ [])) ≡ suc (length l)
  quoted_length = omega (arith, length-append l (34 ∷ []))

  last_quote : byte in_quotes (length in_quotes - 1) ≡ 34
  last_quote =
      let e : length in_quotes - 1 ≡ suc (length l) = omega (arith, quoted_length) in
      rw e (get_or-append_seam l 34 [] 0)

  pub quoted_solid : Solid in_quotes
  unfolding whitespace
  quoted_solid = record { some = omega arith; first = refl; last = rw last_quote }

  pub quoted_value : value_of (spaced in_quotes) ≡ l
  unfolding value_of value_span without_opening_quote without_closing_quote
  quoted_value =
      let place : 2 + suc (length l) - 1 ≡ suc (suc (length l)) = omega arith in
      let less : suc (suc (length l)) - 1 ≡ suc (length l) = omega arith in
      let least : suc (length l) - 1 ≡ length l = omega arith in
      let at_end : byte (spaced in_quotes) (suc (suc (length l))) ≡ 34 =
      ap (λ (k : List ℕ). byte k (length l)) (append_assoc l (34 ∷ []) (32 ∷ [])) ∙ get_or-append_seam l 34 (32 ∷ []) 0 in
      rw (
        spaces_trimmed in_quotes quoted_solid,
        quoted_length,
        lt-ltb 0 (suc (suc (length l))) (omega arith),
        less,
        place,
        lt-ltb 0 (suc (length l)) (omega arith),
        at_end,
        least,
        append_assoc l (34 ∷ []) (32 ∷ []),
      )
      (take-append_seam l (34 ∷ 32 ∷ []))

-- Spaces make what is left no longer.
leading_more : (v u : List ℕ) → leading v ≤ leading (v ++ u)
unfolding leading
leading_more [] u = zero-le
leading_more (b ∷ v) u = by_test (whitespace b) (λ e. rw e (suc-le-suc (leading_more v u))) (λ e. rw e zero-le)

end_less : (v u : List ℕ) (n : ℕ) → n ≤ length v → trimmed_end (32 ∷ v ++ u) (suc n) ≤ suc (trimmed_end v n)
unfolding trimmed_end whitespace
end_less v u zero h = zero-le
end_less v u (suc n) h =
    let same : byte (v ++ u) n ≡ byte v n = get_or-append v u 0 n h in
    by_test (whitespace (byte v n)) (λ e. rw (same, e) (end_less v u n (omega arith))) (λ e. rw (same, e) (omega arith))

pub spaced_short : (v : List ℕ) → (trimmed (spaced v)).length ≤ (trimmed v).length
unfolding trimmed leading trimmed_end whitespace
spaced_short v =
    rw (spaced_length v, spaced_end v) (omega (arith, end_less v (32 ∷ []) (length v) (omega arith), leading_more v (32 ∷ [])))

-- And trimming makes nothing longer.
end_within : (l : List ℕ) (n : ℕ) → trimmed_end l n ≤ n
unfolding trimmed_end
end_within l zero = zero-le
end_within l (suc n) =
    by_test (whitespace (byte l n)) (λ e. rw e (omega (arith, end_within l n))) (λ e. rw e (omega arith))

pub trimmed-within : (l : List ℕ) → (trimmed l).length ≤ length l
unfolding trimmed
trimmed-within l = omega (arith, end_within l (length l))
