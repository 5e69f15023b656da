-- A part of a list of bytes, and where it stands in it.
use mathlib.Core.Path.{◌≡◌, ◌∙◌}
use mathlib.Core.List.{List, ◌++◌}
use Prim.Native.Nat.{ℕ, ◌+◌, ◌<◌}
use lib.ListN.{length, get_or-append}
use lib.Seq.{take-append_seam, drop-append_seam, get_or-append-add}
use Rattle.scan.specs.Byte.{byte, bytes_at}
use Rattle.scan.specs.declared.Span.{Span}

pub record Part (raw : List ℕ) (offset : ℕ) (l : List ℕ) : Type 0 where
  pub front : List ℕ
  pub back : List ℕ
  pub is : raw ≡ front ++ (l ++ back)
  pub stands : offset ≡ length front

-- Its span.
abbrev pub span_of : ℕ → List ℕ → Span
span_of offset l = record { offset = offset; length = length l }

module _ {raw : List ℕ} {offset : ℕ} {l : List ℕ} (h : Part raw offset l) where
  pub part_bytes : bytes_at raw (span_of offset l) ≡ l
  part_bytes =
      rw (h.is, h.stands, drop-append_seam h.front (l ++ h.back)) (take-append_seam l h.back)

  pub part_byte : (k : ℕ) → k < length l → byte raw (offset + k) ≡ byte l k
  part_byte k inside =
      rw (h.is, h.stands) (get_or-append-add h.front (l ++ h.back) k 0 ∙ get_or-append l h.back 0 k inside)
