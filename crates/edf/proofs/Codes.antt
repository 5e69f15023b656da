-- The code of an error is one that document 01 names for the call (specs/Codes), and never 0.
use Rattle.std.specs.Prelude.{Err}
use mathlib.Core.Path.{◌≡◌, sym}
use mathlib.Core.Bool.{Bool, true, false}
use mathlib.Core.List.{List}
use Prim.Native.Nat.{ℕ}
use lib.ListN.{length}
use Rattle.scan.specs.declared.Error.{Error}
use Rattle.blocks.specs.declared.Row.{Row}
use Rattle.frame.specs.declared.Frame.{Frame}
use Rattle.listing.specs.Listing.{listing}
use Rattle.edf.specs.Codes.{open_codes, find_codes, number_codes, real_codes, text_codes, describe_codes, array_codes, stored_codes, pixel_codes, write_codes, list_codes, IsCodes}
use Rattle.edf.specs.Calls.{Open, Find, WholeNumber, ReadReal, Text, Escape, Unescape, Describe, ReadArray, Stores, ReadPixel, Write, Lists}
use Rattle.edf.proofs.CodeLaws.{open_gives, find_gives, number_gives, real_gives, describe_gives, pixel_gives, text_gives, array_read_gives, stored_gives, escape_gives, unescape_gives, write_gives, list_gives, no_zero}

pub open_codes_lem : {s : List ℕ} {before after : List Row} {x : Error} → Open s before (Err x) after → open_codes x.code ≡ true
open_codes_lem {s} {before} c = (open_gives (length before) s).hold (sym c.answers)

module _ {s : List ℕ} {block : ℕ} {x : Error} where
  pub find_codes_lem : {key : List ℕ} → Find s block key (Err x) → find_codes x.code ≡ true
  find_codes_lem {key} c = (find_gives s block key).hold (sym c.answers)

  pub number_codes_lem : {key : List ℕ} → WholeNumber s block key (Err x) → number_codes x.code ≡ true
  number_codes_lem {key} c = (number_gives s block key).hold (sym c.answers)

  pub real_codes_lem : {key : List ℕ} → ReadReal s block key (Err x) → real_codes x.code ≡ true
  real_codes_lem {key} c = (real_gives s block key).hold (sym c.answers)

  pub describe_codes_lem : Describe s block (Err x) → describe_codes x.code ≡ true
  describe_codes_lem c = (describe_gives s block).hold (sym c.answers)

  pub stored_codes_lem : {order : ℕ} → Stores s block order (Err x) → stored_codes x.code ≡ true
  stored_codes_lem {order} c = (stored_gives s block order).hold (sym c.answers)

  pub pixel_codes_lem : {i1 i2 i3 : ℕ} → ReadPixel s block i1 i2 i3 (Err x) → pixel_codes x.code ≡ true
  pixel_codes_lem {i1} {i2} {i3} c = (pixel_gives s block i1 i2 i3).hold (sym c.answers)

module _ {before after : List ℕ} {x : Error} where
  pub text_codes_lem : (s : List ℕ) (block : ℕ) (key : List ℕ) → Text s block key before (Err x) after → text_codes x.code ≡ true
  text_codes_lem s block key c = (text_gives before s block key).hold (sym c.answers)

  pub array_codes_lem : (s : List ℕ) (block order : ℕ) → ReadArray s block order before (Err x) after → array_codes x.code ≡ true
  array_codes_lem s block order c = (array_read_gives before s block order).hold (sym c.answers)

  pub escape_codes : (l : List ℕ) → Escape l before (Err x) after → write_codes x.code ≡ true
  escape_codes l c = (escape_gives before l).hold (sym c.answers)

  pub unescape_codes : (l : List ℕ) → Unescape l before (Err x) after → write_codes x.code ≡ true
  unescape_codes l c = (unescape_gives before l).hold (sym c.answers)

  pub write_codes_lem : (f : Frame) (title pixels : List ℕ) → Write f title pixels before (Err x) after → write_codes x.code ≡ true
  write_codes_lem f title pixels c = (write_gives before f title pixels).hold (sym c.writes.answers)

  pub list_codes_lem : (s : List ℕ) → Lists s before (Err x) after → list_codes x.code ≡ true
  list_codes_lem s c = (list_gives before (listing s)).hold (sym c.writes.answers)

-- So a C program can take 0 for success.
pub zero_is_no_code : (t : ℕ → Bool) → IsCodes t → t 0 ≡ false
zero_is_no_code = no_zero
