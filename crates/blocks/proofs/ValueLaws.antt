-- The numbers that keys for blocks give: the functions that read them answer the grammar's relations exactly.
use Rattle.std.specs.Prelude.{Option, None, Some}
use Rattle.std.proofs.lemmas.Option.{none-some, same_Some}
use mathlib.Core.Path.{◌≡◌, refl, sym, ◌∙◌}
use mathlib.Core.Logic.{◌↔◌}
use mathlib.Core.Bool.{true, false≢true}
use mathlib.Core.List.{List}
use Prim.Native.Nat.{ℕ, ◌≤◌}
use native.Mathlib.Omega.{arith}
use borrow.Author.Tests.{eqb-true, eq-eqb, le-leb, leb-true}
use lib.Dec.{leb}
use lib.IntN.{ℤ, pos, negsuc}
use Rattle.scan.specs.Byte.{ascii, same}
use Rattle.scan.proofs.Cases.{by_test, by_option, clash}
use Rattle.scan.proofs.Decides.{Decides, holds, fails, decided, same_decides}
use Rattle.scan.proofs.Finds.{Finds, found, missing, finds_some, finds_none, finds_has}
use Rattle.text.specs.Number.{digit, digits_from, natural, whole_number}
use Rattle.lexical.proofs.WholeLaws.{whole_sound, whole_complete}
use Rattle.blocks.specs.Judging.{is_whole_or_absent, is_number, is_length_or_absent}
use Rattle.blocks.specs.Reading.{at_least, number_or, asked_for}
use Rattle.blocks.specs.Values.{Absent, NumberOr, WholeOrAbsent, LengthOrAbsent, AsksFor}

-- ---- A whole number from `least`

-- What `at_least` keeps, and that it keeps it.
pub least_sound : {least n : ℕ} (w : Option ℤ) → at_least least w ≡ Some n → (w ≡ Some (pos n)) × (least ≤ n)
least_sound None e = absurd (none-some _ e)
least_sound {least} {n} (Some (pos m)) e =
    by_test (leb least m)
    (λ h. let q : m ≡ n = same_Some m n (rw h at e) in (rw q, omega (arith, leb-true least m h)))
    (λ h. absurd (none-some _ (rw h at e)))
least_sound (Some (negsuc m)) e = absurd (none-some _ e)

pub least_complete : {least n : ℕ} {w : Option ℤ} → w ≡ Some (pos n) → least ≤ n → at_least least w ≡ Some n
least_complete e h = rw (e, le-leb _ _ h)

-- What `is_number` tests.
is_number_lem : {n : ℕ} (w : Option ℤ) → is_number n w ≡ true → w ≡ Some (pos n)
is_number_lem None e = absurd (false≢true e)
is_number_lem (Some (pos m)) e = rw (eqb-true m _ e)
is_number_lem (Some (negsuc m)) e = absurd (false≢true e)

-- ---- Keys that may be absent: `Has v`, the key is there with the value v, and o is the value that is read

pub record Reads (Has : List ℕ → Type 0) (o : Option (List ℕ)) : Type 0 where
  pub finds : Finds Has o
  pub one : {v w : List ℕ} → Has v → Has w → v ≡ w

module _ {Has : List ℕ → Type 0} {o : Option (List ℕ)} (reads : Reads Has o) where
  pub reads_some : {v : List ℕ} → Has v → o ≡ Some v
  reads_some h = finds_some reads.finds (λ y p q. reads.one p q) h

  pub reads_is : {v : List ℕ} → (o ≡ Some v) ↔ Has v
  reads_is = (finds_has reads.finds, reads_some)

  pub reads_none : Absent Has → o ≡ None
  reads_none n = finds_none reads.finds n

  -- Size, EDF_BinarySize, EDF_BlockBoundary: what is read stands in the relation, and what stands there is read.
  module _ {default least : ℕ} where
    pub number_sound : {n : ℕ} → number_or default least o ≡ Some n → NumberOr Has default least n
    unfolding number_or
    number_sound {n} e = go reads.finds e
      where
        go : {o : Option (List ℕ)} → Finds Has o → number_or default least o ≡ Some n → NumberOr Has default least n
        go (missing m) e = rw (← same_Some default n e) (NumberOr.absent m)
        go (found {x = v} h) e = let q = least_sound (whole_number v) e in NumberOr.given h (whole_sound v q.0) q.1

    pub number-complete : {n : ℕ} → NumberOr Has default least n → number_or default least o ≡ Some n
    unfolding number_or
    number-complete (NumberOr.absent m) = rw (reads_none m)
    number-complete (NumberOr.given h w l) = rw (reads_some h) (least_complete (whole_complete w) l)

  -- EDF_HeaderSize: its two tests decide whether it is a whole number, and the header's length.
  pub whole-decides : Decides (WholeOrAbsent Has) (is_whole_or_absent o)
  unfolding is_whole_or_absent
  whole-decides = go reads.finds
    where
      not_whole : {v : List ℕ} → whole_number v ≡ None → Has v → WholeOrAbsent Has → ⊥
      not_whole e h (WholeOrAbsent.absent m) = m _ h
      not_whole e h (WholeOrAbsent.given {z = z} k w) = none-some z (sym e ∙ rw (reads.one h k) (whole_complete w))

      go : {o : Option (List ℕ)} → Finds Has o → Decides (WholeOrAbsent Has) (is_whole_or_absent o)
      go (missing m) = holds (WholeOrAbsent.absent m)
      go (found {x = v} h) =
          by_option (whole_number v) (λ e. rw e (fails (not_whole e h))) (λ z e. rw e (holds (WholeOrAbsent.given h (whole_sound v e))))

  pub length-decides : (n : ℕ) → Decides (LengthOrAbsent Has n) (is_length_or_absent n o)
  unfolding is_length_or_absent
  length-decides n =
      by_test (is_length_or_absent n o)
      (λ e. rw e (holds (sound reads.finds e)))
      (λ e. rw e (fails (λ h. clash (is_length_or_absent n o) (complete h) e)))
    where
      sound : {o : Option (List ℕ)} → Finds Has o → is_length_or_absent n o ≡ true → LengthOrAbsent Has n
      sound (missing m) e = LengthOrAbsent.absent m
      sound (found {x = v} h) e = LengthOrAbsent.given h (whole_sound v (is_number_lem (whole_number v) e))

      complete : LengthOrAbsent Has n → is_length_or_absent n o ≡ true
      complete (LengthOrAbsent.absent m) = rw (reads_none m)
      complete (LengthOrAbsent.given h w) = rw (reads_some h, whole_complete w, eq-eqb n n refl)

-- A whole number that is the length is a whole number.
pub length_whole : {Has : List ℕ → Type 0} {n : ℕ} → LengthOrAbsent Has n → WholeOrAbsent Has
length_whole (LengthOrAbsent.absent m) = WholeOrAbsent.absent m
length_whole (LengthOrAbsent.given h w) = WholeOrAbsent.given h w

-- ---- EDF_DataBlocks

-- The word is no whole number.
undetermined_no_number : whole_number (ascii "Undetermined") ≡ None
unfolding whole_number natural digits_from digit
undetermined_no_number = refl

is_undetermined : (v : List ℕ) → same v (ascii "Undetermined") ≡ true → v ≡ ascii "Undetermined"
is_undetermined v e = decided (same_decides v (ascii "Undetermined")) e

pub asked_sound : {v : List ℕ} {n : ℕ} → asked_for v ≡ Some n → AsksFor v n
unfolding asked_for
asked_sound {v} {n} e =
    by_test (same v (ascii "Undetermined"))
    (λ q. rw (is_undetermined v q, ← same_Some 1 n (rw q at e)) AsksFor.undetermined)
    (λ q. let h = least_sound (whole_number v) (rw q at e) in AsksFor.number (whole_sound v h.0) h.1)

pub asked_complete : {v : List ℕ} {n : ℕ} → AsksFor v n → asked_for v ≡ Some n
unfolding asked_for same
asked_complete (AsksFor.number {v} e h) =
    by_test (same v (ascii "Undetermined"))
    (λ q. absurd (none-some _ (sym undetermined_no_number ∙ rw (is_undetermined v q) at (whole_complete e))))
    (λ q. rw q (least_complete (whole_complete e) h))
asked_complete AsksFor.undetermined = refl

pub asked_unique : {v : List ℕ} {m n : ℕ} → AsksFor v m → AsksFor v n → m ≡ n
asked_unique a b = cc (asked_complete a, asked_complete b)

-- A general header asks for one data block at least.
pub asked_positive : {v : List ℕ} {n : ℕ} → AsksFor v n → 1 ≤ n
asked_positive (AsksFor.number e h) = h
asked_positive AsksFor.undetermined = omega arith
