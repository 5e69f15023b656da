-- `identity_of` answers the grammar's identity exactly.
use Rattle.std.specs.Prelude.{Option, None, Some}
use Rattle.std.proofs.lemmas.Option.{none-some, same_Some}
use mathlib.Core.Path.{◌≡◌, refl, sym, ap, ◌∙◌}
use mathlib.Core.List.{List, [], ◌∷◌, ◌++◌}
use mathlib.Core.Logic.{◌≢◌}
use Prim.Native.Nat.{ℕ}
use native.Mathlib.Omega.{arith}
use borrow.Author.Tests.{eqb-true}
use lib.Dec.{eqb}
use lib.IntN.{ℤ, pos}
use lib.ListN.{length, take, drop, take-append-drop}
use lib.Seq.{take-append_seam, drop-append_seam}
use Rattle.scan.specs.Byte.{ascii, same}
use Rattle.scan.specs.Search.{first_from, is}
use Rattle.scan.proofs.Cases.{by_test}
use Rattle.scan.proofs.Decides.{decided, same_decides}
use Rattle.scan.proofs.Seams.{first_seam}
use Rattle.scan.proofs.Searches.{search_is}
use Rattle.text.specs.Number.{whole_number}
use Rattle.text.proofs.Numbers.{whole_plain}
use Rattle.lexical.proofs.WholeLaws.{whole_sound, whole_complete}
use Rattle.blocks.specs.Reading.{after_prefix, memory_of, identity_by, instance_by, image_by, point_by, identity_of}
use Rattle.blocks.specs.declared.Identity.{Identity}
use Rattle.blocks.specs.Values.{Instance, Memory, IsIdentity}
use Rattle.blocks.proofs.ValueLaws.{least_sound, least_complete}

-- ---- What an answer says

abbrev Says : List ℕ → Option Identity → Type 0
Says v None = Unit {0}
Says v (Some i) = IsIdentity v i.sequence i.instance i.memory

-- A prefix and what follows it are the whole.
prefix_sound : (p : List ℕ) {v r : List ℕ} → after_prefix p v ≡ Some r → v ≡ p ++ r
unfolding after_prefix
prefix_sound p {v} {r} e =
    by_test (same (take (length p) v) p)
    (λ q. let f : drop (length p) v ≡ r = same_Some _ _ (rw q at e) in
    sym (take-append-drop (length p) v) ∙ cc (decided (same_decides (take (length p) v) p) q))
    (λ q. absurd (none-some _ (rw q at e)))

memory_sound : {rest : List ℕ} {m : ℕ} → memory_of rest ≡ Some m → Memory rest (pos m)
unfolding memory_of
memory_sound {rest = []} {m} e = rw (← same_Some 1 m e) Memory.omitted
memory_sound {rest = b ∷ rest} e =
    by_test (eqb b 46)
    (λ q. let h = least_sound (whole_number rest) (rw q at e) in rw (eqb-true b 46 q) (Memory.given (whole_sound rest h.0) h.1))
    (λ q. absurd (none-some _ (rw q at e)))

module _ (v number : List ℕ) where
  -- Read backwards: the parts, then the instance, then `.Image.`, then the first point.
  parts_say : {word : List ℕ} {n : ℕ} → Instance word n → (rest : List ℕ) → v ≡ number ++ (ascii ".Image." ++ (word ++ rest))
      → (s : Option ℤ) → whole_number number ≡ s → (m : Option ℕ) → memory_of rest ≡ m → Says v (identity_by s n m)
  parts_say i rest e None s m f = tt
  parts_say i rest e (Some a) s None f = tt
  parts_say {word} i rest e (Some a) s (Some m) f =
      record {
        number = number;
        word = word;
        rest = rest;
        is = e;
        sequence_is = whole_sound number s;
        instance_is = i;
        memory_is = memory_sound f;
      }

  instance_says : (tail : List ℕ) → v ≡ number ++ (ascii ".Image." ++ tail)
      → (p : Option (List ℕ)) → after_prefix (ascii "Psd") tail ≡ p
      → (q : Option (List ℕ)) → after_prefix (ascii "Error") tail ≡ q
      → Says v (instance_by (whole_number number) p q)
  instance_says tail e (Some rest) p q f =
      parts_say Instance.psd rest (rw (prefix_sound (ascii "Psd") p) at e) (whole_number number) refl (memory_of rest) refl
  instance_says tail e None p (Some rest) f =
      parts_say Instance.error rest (rw (prefix_sound (ascii "Error") f) at e) (whole_number number) refl (memory_of rest) refl
  instance_says tail e None p None f = tt

  image_says : (tail : List ℕ) → v ≡ number ++ tail → (o : Option (List ℕ)) → after_prefix (ascii ".Image.") tail ≡ o
      → Says v (image_by (whole_number number) o)
  image_says tail e None f = tt
  image_says tail e (Some rest) f =
      instance_says rest (rw (prefix_sound (ascii ".Image.") f) at e) (after_prefix (ascii "Psd") rest) refl
      (after_prefix (ascii "Error") rest) refl

point_says : (v : List ℕ) (o : Option ℕ) → Says v (point_by v o)
point_says v None = tt
point_says v (Some k) =
    image_says v (take k v) (drop k v) (sym (take-append-drop k v)) (after_prefix (ascii ".Image.") (drop k v)) refl

-- Where the function answers, the value is that identity.
pub identity_sound : {v : List ℕ} {i : Identity} → identity_of v ≡ Some i → IsIdentity v i.sequence i.instance i.memory
unfolding identity_of
identity_sound {v} e = rw e at (point_says v ((first_from (is 46) v 0)))

-- ---- The answer for an identity

-- The first point ends the sequence, `.Image.` follows it,
image_is : (number tail : List ℕ) {a : ℤ} → whole_number number ≡ Some a
    → identity_of (number ++ (ascii ".Image." ++ tail))
    ≡ instance_by (Some a) (after_prefix (ascii "Psd") tail) (after_prefix (ascii "Error") tail)
unfolding identity_of after_prefix same
image_is number tail e =
    rw (
      search_is (is 46) _ (first_seam (is 46) number 46 (ascii "Image." ++ tail) (whole_plain number e) refl),
      take-append_seam,
      drop-append_seam,
      e,
    )

-- neither word for the instance starts the other,
instance_is : {word : List ℕ} {n : ℕ} → Instance word n → (s : Option ℤ) (rest : List ℕ)
    → instance_by s (after_prefix (ascii "Psd") (word ++ rest)) (after_prefix (ascii "Error") (word ++ rest))
    ≡ identity_by s n (memory_of rest)
unfolding after_prefix same
instance_is Instance.psd s rest = refl
instance_is Instance.error s rest = refl

-- and the memory is last.
memory_is : {rest : List ℕ} {c : ℤ} → Memory rest c → (a : ℤ) (n : ℕ)
    → identity_by (Some a) n (memory_of rest) ≡ Some (record { sequence = a; instance = n; memory = c })
unfolding memory_of
memory_is Memory.omitted a n = refl
memory_is (Memory.given e h) a n = rw (least_complete (whole_complete e) h)

-- For an identity the function answers it,
pub identity_complete : {v : List ℕ} {a c : ℤ} {b : ℕ} → IsIdentity v a b c
    → identity_of v ≡ Some (record { sequence = a; instance = b; memory = c })
identity_complete {a} {b} h =
    rw h.is (image_is h.number (h.word ++ h.rest) (whole_complete h.sequence_is)
    ∙ instance_is h.instance_is (Some a) h.rest ∙ memory_is h.memory_is a b)

-- so a value has one identity at most,
pub identity_unique : {v : List ℕ} {a c a' c' : ℤ} {b b' : ℕ} → IsIdentity v a b c → IsIdentity v a' b' c'
    → (a ≡ a') × (b ≡ b') × (c ≡ c')
identity_unique h g =
    let e = same_Some _ _ (sym (identity_complete h) ∙ identity_complete g) in
    (ap (λ (i : Identity). i.sequence) e, ap (λ (i : Identity). i.instance) e, ap (λ (i : Identity). i.memory) e)

-- and an identity has an instance other than 0.
pub identity_named : {v : List ℕ} {a c : ℤ} {b : ℕ} → IsIdentity v a b c → b ≢ 0
identity_named h = named h.instance_is
  where
    named : {word : List ℕ} {n : ℕ} → Instance word n → n ≢ 0
    named Instance.psd e = omega arith
    named Instance.error e = omega arith
