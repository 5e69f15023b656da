-- `is_version` decides whether a value is a version.
use mathlib.Core.Path.{◌≡◌, refl, sym, ◌∙◌}
use mathlib.Core.Bool.{true, not, ◌&&◌}
use mathlib.Core.List.Memᴰ
use mathlib.Core.List.{List, [], ◌∷◌, ◌++◌}
use Prim.Native.Nat.{ℕ, suc, ◌+◌, ◌-◌, ◌≤◌, ◌<◌}
use native.Mathlib.Omega.{arith}
use lib.Dec.{eqb}
use lib.ListN.{length, take, drop, length-append, take-append-drop, drop_of_length-le}
use lib.Seq.{drop-cons, take-append_seam, get_or-append_seam, get_or-append-add}
use Rattle.scan.specs.Byte.{byte}
use Rattle.scan.specs.Search.{is}
use Rattle.scan.proofs.Cases.{byte_inside}
use Rattle.scan.proofs.Decides.{Decides, decided, passes, decides_and, decides_by, eqb_decides, leb_decides}
use Rattle.text.specs.Number.{digit}
use Rattle.text.specs.Text.{every}
use Rattle.text.proofs.Everys.{Each, Lacks, every_decides, lacks_decides}
use Rattle.blocks.specs.Reading.{is_version}
use Rattle.blocks.specs.Values.{IsVersion}

abbrev Digit : ℕ → Type 0
Digit b = (48 ≤ b) × (b ≤ 57)

digit_decides : (b : ℕ) → Decides (Digit b) (digit b)
unfolding digit
digit_decides b = decides_and (leb_decides 48 b) (leb_decides b 57)

-- What the tests of `is_version` say: of the digits in front, the point and the two digits after it.
abbrev Parts : List ℕ → ℕ → ℕ → ℕ → Type 0
Parts major point tens units =
    (((Each Digit major × Lacks (λ b. b ≡ 48) major) × (point ≡ 46)) × Digit tens) × Digit units

parts_decide : (major : List ℕ) (point tens units : ℕ)
    → Decides (Parts major point tens units)
    (every digit major && not (every (is 48) major) && eqb point 46 && digit tens && digit units)
parts_decide major point tens units =
    decides_and (decides_and (decides_and (decides_and
    (every_decides Digit digit_decides major) (lacks_decides (λ b. b ≡ 48) (λ b. eqb_decides b 48) major))
    (eqb_decides point 46)) (digit_decides tens)) (digit_decides units)

module _ (v : List ℕ) where
  -- All but the last three bytes.
  abbrev front : ℕ
  front = length v - 3

  -- The last three bytes, where there are three.
  last_three : front + 2 < length v → drop front v ≡ byte v front ∷ byte v (front + 1) ∷ byte v (front + 2) ∷ []
  last_three inside =
      let one : front + 1 ≡ suc front = omega arith in
      let two : front + 2 ≡ suc (suc front) = omega arith in
      rw (
        one,
        two,
        drop-cons v front 0 (omega arith),
        drop-cons v (suc front) 0 (omega arith),
        drop-cons v (suc (suc front)) 0 (omega arith),
        drop_of_length-le v {i = suc (suc (suc front))} (omega arith),
      )

  -- The tests' facts, and a version: each gives the other.
  sound : Parts (take front v) (byte v front) (byte v (front + 1)) (byte v (front + 2)) → IsVersion v
  sound h =
      record {
        major = take front v;
        tens = byte v (front + 1);
        units = byte v (front + 2);
        is = sym (take-append-drop front v) ∙ rw (last_three inside, h.0.0.1);
        digits =
            decided (every_decides Digit digit_decides (byte v (front + 1) ∷ byte v (front + 2) ∷ take front v))
            (rw (passes (digit_decides _) h.0.1, passes (digit_decides _) h.1)
            (passes (every_decides Digit digit_decides (take front v)) h.0.0.0.0));
        not_zero = h.0.0.0.1;
      }
    where
      inside : front + 2 < length v
      inside = byte_inside v (front + 2) (byte v (front + 2)) refl (omega (arith, h.1))

  complete : IsVersion v → Parts (take front v) (byte v front) (byte v (front + 1)) (byte v (front + 2))
  complete h =
      let digits : Each Digit h.major = λ b m. h.digits b (Memᴰ.tail (Memᴰ.tail m)) in
      let tens : Digit h.tens = h.digits h.tens (Memᴰ.head refl) in
      let units : Digit h.units = h.digits h.units (Memᴰ.tail (Memᴰ.head refl)) in
      rw (
        h.is,
        cut h.major h.tens h.units,
        take-append_seam,
        get_or-append_seam,
        get_or-append-add h.major (46 ∷ h.tens ∷ h.units ∷ []) 1,
        get_or-append-add h.major (46 ∷ h.tens ∷ h.units ∷ []) 2,
      ) ((((digits, h.not_zero), refl), tens), units)
    where
      cut : (l : List ℕ) (t u : ℕ) → length (l ++ (46 ∷ t ∷ u ∷ [])) - 3 ≡ length l
      cut l t u = omega (arith, length-append l (46 ∷ t ∷ u ∷ []))

  pub version-decides : Decides (IsVersion v) (is_version v)
  unfolding is_version
  version-decides =
      decides_by sound complete (parts_decide (take front v) (byte v front) (byte v (front + 1)) (byte v (front + 2)))

pub version_sound : {v : List ℕ} → is_version v ≡ true → IsVersion v
version_sound {v} e = decided (version-decides v) e

pub version_complete : {v : List ℕ} → IsVersion v → is_version v ≡ true
version_complete {v} h = passes (version-decides v) h
