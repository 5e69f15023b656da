-- Errors: what they leave as it was, and that those of opening come first.
use Rattle.scan.specs.Outcome.{Outcome, error_at}
use Rattle.std.specs.Prelude.{ℕ, Err, ℤ}
use Rattle.scan.specs.declared.Span.{Span}
use Rattle.reals.specs.declared.Real.{Real}
use Rattle.description.specs.declared.Description.{Description}
use Rattle.raster.specs.declared.Pixel.{Pixel}
use Rattle.stored.specs.declared.StoredArray.{StoredArray}
use mathlib.Core.Path.{◌≡◌, refl, ◌∙◌}
use mathlib.Core.Logic.{◌↔◌}
use mathlib.Core.List.{List}
use Prim.Native.Nat.{ℕ, ◌≤◌, ◌<◌}
use lib.ListN.{length}
use Rattle.scan.specs.declared.Error.{Error}
use Rattle.blocks.specs.declared.Row.{Row}
use Rattle.fields.proofs.ReadLaws.{not_found, no_number, no_text}
use Rattle.quantities.proofs.ReadLaws.{no_real}
use Rattle.edf.specs.Calls.{IntoBuffer, Open, Find, WholeNumber, ReadReal, Text, Describe, ReadArray, Stores, ReadPixel}
use Rattle.edf.proofs.CallLaws.{kept, refused_by}
use Rattle.edf.proofs.CallLaws.{no_entry_lem, no_description, array_refused, stored_refused, pixel_refused}
use Rattle.edf.proofs.OpeningLaws.{promised}

-- In an error of `text`, `escape`, `unescape`, `read_array`, `write` or `list` the lent buffer is as before; in one of `open` the table is.
pub buffer_untouched : (o : Outcome (List ℕ)) {before after : List ℕ} {x : Error} → IntoBuffer o before (Err x) after → after ≡ before
buffer_untouched = kept

pub table_untouched : {s : List ℕ} {before after : List Row} {x : Error} → Open s before (Err x) after → after ≡ before
table_untouched {x = x} c = (promised c).untouched x refl

-- `open` gives 1 exactly for a file over the limit, and else 2 exactly for a table under 256 rows.
pub over_limit : {s : List ℕ} {before after : List Row} {r : Outcome ℕ} → Open s before r after
    → (r ≡ Err (error_at 1 0)) ↔ (1073741824 < length s)
over_limit c = (promised c).over_limit

pub few_rows : {s : List ℕ} {before after : List Row} {r : Outcome ℕ} → Open s before r after
    → (r ≡ Err (error_at 2 0)) ↔ ((length s ≤ 1073741824) × (length before < 256))
few_rows c = (promised c).few_rows

-- Where `open`, with a table of enough rows, gives an error, each call on a block of that file gives that error.
module _ {s : List ℕ} {table left : List Row} {x : Error} (rows : 256 ≤ length table) (refuses : Open s table (Err x) left)
    (block : ℕ) where
  pub find_refuses : {key : List ℕ} {r : Outcome Span} → Find s block key r → r ≡ Err x
  find_refuses {key} {r} c = (c.answers ∙ not_found s block key (no_entry_lem rows refuses block key))

  pub number_refuses : {key : List ℕ} {r : Outcome ℤ} → WholeNumber s block key r → r ≡ Err x
  number_refuses {key} {r} c = (c.answers ∙ no_number s block key (no_entry_lem rows refuses block key))

  pub real_refuses : {key : List ℕ} {r : Outcome Real} → ReadReal s block key r → r ≡ Err x
  real_refuses {key} {r} c = (c.answers ∙ no_real s block key (no_entry_lem rows refuses block key))

  pub text_refuses : (key : List ℕ) {before after : List ℕ} {r : Outcome ℕ} → Text s block key before r after → (r ≡ Err x) × (after ≡ before)
  text_refuses key c = refused_by (no_text s block key (no_entry_lem rows refuses block key)) c

  pub describe_refuses : {r : Outcome Description} → Describe s block r → r ≡ Err x
  describe_refuses {r} c = (c.answers ∙ no_description rows refuses block)

  pub array_refuses : (order : ℕ) {before after : List ℕ} {r : Outcome ℕ} → ReadArray s block order before r after
      → (r ≡ Err x) × (after ≡ before)
  array_refuses order c = refused_by (array_refused rows refuses block order) c

  pub stored_refuses : {order : ℕ} {r : Outcome StoredArray} → Stores s block order r → r ≡ Err x
  stored_refuses {order} {r} c = (c.answers ∙ stored_refused rows refuses block order)

  pub pixel_refuses : {i1 i2 i3 : ℕ} {r : Outcome Pixel} → ReadPixel s block i1 i2 i3 r → r ≡ Err x
  pixel_refuses {i1} {i2} {i3} {r} c = (c.answers ∙ pixel_refused rows refuses block i1 i2 i3)
