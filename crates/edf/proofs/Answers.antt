-- A call has one answer, and every file has a listing.
use Rattle.scan.specs.Outcome.{Outcome}
use Rattle.std.specs.Prelude.{ℕ, ℤ}
use Rattle.scan.specs.declared.Span.{Span}
use Rattle.reals.specs.declared.Real.{Real}
use Rattle.description.specs.declared.Description.{Description}
use Rattle.raster.specs.declared.Pixel.{Pixel}
use Rattle.stored.specs.declared.StoredArray.{StoredArray}
use mathlib.Core.Path.{◌≡◌, refl, sym, ◌∙◌}
use mathlib.Core.List.{List}
use Prim.Native.Nat.{ℕ, ◌≤◌}
use native.Mathlib.Omega.{arith}
use lib.ListN.{length}
use Rattle.blocks.specs.declared.Row.{Row}
use Rattle.listing.specs.Listing.{listing}
use Rattle.edf.specs.Calls.{IntoBuffer, Puts, Open, Find, WholeNumber, ReadReal, Describe, Stores, ReadPixel, Lists}
use Rattle.edf.proofs.CallLaws.{with_room, same_written}

-- ---- One answer

pub one_opening : {s : List ℕ} {table : List Row} {r q : Outcome ℕ} {after left : List Row} → Open s table r after → Open s table q left
    → (r ≡ q) × (after ≡ left)
one_opening {r = r} {q = q} c d = (c.answers ∙ sym d.answers, c.leaves ∙ sym d.leaves)

pub one_place : {s : List ℕ} {block : ℕ} {key : List ℕ} {r q : Outcome Span} → Find s block key r → Find s block key q → r ≡ q
one_place {r = r} {q = q} c d = c.answers ∙ sym d.answers

pub one_number : {s : List ℕ} {block : ℕ} {key : List ℕ} {r q : Outcome ℤ} → WholeNumber s block key r → WholeNumber s block key q → r ≡ q
one_number {r = r} {q = q} c d = c.answers ∙ sym d.answers

pub one_real : {s : List ℕ} {block : ℕ} {key : List ℕ} {r q : Outcome Real} → ReadReal s block key r → ReadReal s block key q → r ≡ q
one_real {r = r} {q = q} c d = c.answers ∙ sym d.answers

pub one_description : {s : List ℕ} {block : ℕ} {r q : Outcome Description} → Describe s block r → Describe s block q → r ≡ q
one_description {r = r} {q = q} c d = c.answers ∙ sym d.answers

pub one_stored : {s : List ℕ} {block order : ℕ} {r q : Outcome StoredArray} → Stores s block order r → Stores s block order q → r ≡ q
one_stored {r = r} {q = q} c d = c.answers ∙ sym d.answers

pub one_pixel : {s : List ℕ} {block i1 i2 i3 : ℕ} {r q : Outcome Pixel} → ReadPixel s block i1 i2 i3 r → ReadPixel s block i1 i2 i3 q → r ≡ q
one_pixel {r = r} {q = q} c d = c.answers ∙ sym d.answers

-- Those that write into a lent buffer: `text`, `escape`, `unescape`, `read_array` and `write`.
pub one_writing : {o : Outcome (List ℕ)} {room : List ℕ} {r q : Outcome ℕ} {after left : List ℕ} → IntoBuffer o room r after
    → IntoBuffer o room q left → (r ≡ q) × (after ≡ left)
one_writing = same_written

-- ---- Every file has a listing

-- `list` writes it, and its length, into every buffer of 76,828 bytes or more.
pub list_writes : {s before after : List ℕ} {r : Outcome ℕ} → 76828 ≤ length before → Lists s before r after
    → Puts (listing s) before r after
list_writes h c = with_room refl (omega (arith, c.fits)) c.writes
