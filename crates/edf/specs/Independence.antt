-- "every value, description and pixel of that block is the same" (02, No. 3), of the calls on a block of two files.
use Rattle.std.specs.Prelude.{◌≡◌, List, ℕ, ℤ}
use Rattle.scan.specs.Outcome.{Outcome}
use Rattle.scan.specs.declared.Span.{Span}
use Rattle.reals.specs.declared.Real.{Real}
use Rattle.description.specs.declared.Description.{Description}
use Rattle.raster.specs.declared.Pixel.{Pixel}
use Rattle.stored.specs.declared.StoredArray.{StoredArray}
use Rattle.keyword.specs.Answers.{located_bytes}
use Rattle.independence.specs.Moved.{moved_located, moved_located_from, moved_stored}
use Rattle.edf.specs.Calls.{Find, WholeNumber, ReadReal, Text, Describe, Stores, ReadArray, ReadPixel}

-- Any call on block k of the file s, and the same call on block j of the file t, answer the same, in an error too, and leave the same in a
-- lent buffer that held the same. `moveLocated` and `moveStored` say what becomes of the answers that have a span.
pub record Answers (s t : List ℕ) (k j : ℕ) (moveLocated : Outcome Span → Outcome Span) (moveStored : Outcome StoredArray → Outcome StoredArray) : Type 0 where
  pub find : {key : List ℕ} {r q : Outcome Span} → Find s k key r → Find t j key q → q ≡ moveLocated r
  -- The bytes of the value, at the span that is found in each file.
  pub value : {key : List ℕ} {r q : Outcome Span} → Find s k key r → Find t j key q → located_bytes t q ≡ located_bytes s r
  pub whole_number : {key : List ℕ} {r q : Outcome ℤ} → WholeNumber s k key r → WholeNumber t j key q → q ≡ r
  pub real : {key : List ℕ} {r q : Outcome Real} → ReadReal s k key r → ReadReal t j key q → q ≡ r
  pub text : (key : List ℕ) {room after left : List ℕ} {r q : Outcome ℕ} → Text s k key room r after → Text t j key room q left
      → (q ≡ r) × (left ≡ after)
  pub describe : {r q : Outcome Description} → Describe s k r → Describe t j q → q ≡ r
  pub stored_array : {order : ℕ} {r q : Outcome StoredArray} → Stores s k order r → Stores t j order q → q ≡ moveStored r
  pub read_array : (order : ℕ) {room after left : List ℕ} {r q : Outcome ℕ} → ReadArray s k order room r after → ReadArray t j order room q left
      → (q ≡ r) × (left ≡ after)
  pub read_pixel : {i1 i2 i3 : ℕ} {r q : Outcome Pixel} → ReadPixel s k i1 i2 i3 r → ReadPixel t j i1 i2 i3 q → q ≡ r

-- The same answers.
abbrev pub SameAnswers : List ℕ → List ℕ → ℕ → ℕ → Type 0
SameAnswers s t k j = Answers s t k j (λ r. r) (λ r. r)

-- The same, with spans from the offset `start` on moved by n: those before it, in the general header, stay.
abbrev pub MovedAnswersFrom : ℕ → ℕ → List ℕ → List ℕ → ℕ → ℕ → Type 0
MovedAnswersFrom start n s t k j = Answers s t k j (moved_located_from start n) (moved_stored n)

-- The same, with all spans moved by n.
abbrev pub MovedAnswers : ℕ → List ℕ → List ℕ → ℕ → ℕ → Type 0
MovedAnswers n s t k j = Answers s t k j (moved_located n) (moved_stored n)
