-- The codes of the errors of each call are those that specs/Codes names for it.
use Rattle.std.specs.Prelude.{Ok, Err, slice_get}
use Rattle.scan.specs.Outcome.{Outcome, error_at, refused, present, ◌>>◌}
use mathlib.Core.Path.{◌≡◌, refl}
use mathlib.Core.Bool.{Bool, true, false, cond, ◌&&◌, ◌||◌}
use mathlib.Core.List.{List, [], map}
use Prim.Native.Nat.{ℕ, suc, ◌+◌, ◌*◌, ◌≤◌}
use native.Mathlib.Omega.{arith}
use borrow.Author.Tests.{le-leb}
use lib.Dec.{eqb, leb}
use lib.ListN.{length, take}
use Rattle.scan.specs.Buffer.{length_written}
use Rattle.scan.specs.Byte.{byte}
use Rattle.scan.specs.Search.{first_from}
use Rattle.scan.specs.declared.Error.{Error}
use Rattle.text.specs.Number.{whole_number}
use Rattle.text.specs.Text.{every, text_byte, value_byte, text_of, short_text, quoted_text, escaped, unescaped}
use Rattle.text.specs.Value.{value_of}
use Rattle.header.specs.Entry.{body_of, key}
use Rattle.header.specs.Frame.{opening_at, closing_at, ends_body, frame_at, header_at}
use Rattle.header.specs.Statements.{statements_from, is_short, are_distinct, statements_of}
use Rattle.header.specs.declared.Header.{Header}
use Rattle.blocks.specs.Opening.{opened, opened_file, opened_into, count_of}
use Rattle.blocks.specs.declared.Row.{Row}
use Rattle.blocks.proofs.Errors.{error_bounded}
use Rattle.blocks.proofs.Sound.{error-sound}
use Rattle.keyword.specs.Keyword.{View, entries_at, general_entries, is_general, view_of, lookup_in, entry_of, found, whole_number_of, text_in}
use Rattle.reals.specs.Numerals.{numeral_of}
use Rattle.reals.specs.Real.{is_bounded, judged, real_of}
use Rattle.quantities.specs.Real.{real_in}
use Rattle.raster.specs.Position.{product}
use Rattle.description.specs.Describe.{description_in, description_of}
use Rattle.array.specs.Delivery.{is_order, is_index, array_of, array_in, pixel_in}
use Rattle.stored.specs.Stored.{stored_with, stored_array}
use Rattle.frame.specs.File.{frame_dims, frame_type, frame_allowed, file_of, written_file}
use Rattle.frame.specs.declared.Frame.{Frame}
use Rattle.listing.proofs.DescriptionErrors.{description_errors}
use Rattle.listing.proofs.ErrorLaws.{Errors, no_error, one_error, presence, checks, steps}
use Rattle.edf.specs.Codes.{within, open_codes, find_codes, number_codes, real_codes, text_codes, describe_codes, array_codes, stored_codes, pixel_codes, write_codes, list_codes, IsCodes, of-open, of-find, of_number, of-real, of-text, of-describe, of_array, of-stored, of-pixel, of-write, of-list}

-- All errors of a definition have codes that pass a test.
abbrev Coded : (ℕ → Bool) → Error → Type 0
Coded t e = t e.code ≡ true

abbrev pub Gives : {A : Type 0} → (ℕ → Bool) → Outcome A → Type 0
Gives t o = Errors (Coded t) o

within_both : (low high c : ℕ) → low ≤ c → c ≤ high → within low high c ≡ true
within_both low high c l h = rw (le-leb low c l, le-leb c high h)

or_left : (a b : Bool) → a ≡ true → (a || b) ≡ true
or_left true b e = refl
or_left false b e = cc

or_right : (a b : Bool) → b ≡ true → (a || b) ≡ true
or_right true b e = refl
or_right false b e = e

-- ---- Opening

opened_gives : (t : ℕ → Bool) → ((c : ℕ) → 3 ≤ c → c ≤ 15 → t c ≡ true) → (s : List ℕ) → Gives t (opened s)
opened_gives t h s = record { hold = λ {e} p. let b = error_bounded (error-sound s p) in h e.code b.least b.most }

counted : (t : ℕ → Bool) (o : Outcome (List Row)) → Gives t o → Gives t (count_of o)
counted t (Ok rows) g = no_error (Coded t) (length rows)
counted t (Err e) g = one_error (Coded t) e (g.hold refl)

pub open_gives : (n : ℕ) (s : List ℕ) → Gives open_codes (count_of (opened_into n s))
unfolding opened_into open_codes
open_gives n s = counted open_codes (opened_into n s)
    (checks (Coded open_codes) (leb (length s) 1073741824) 1 0 _ refl
    (checks (Coded open_codes) (leb 256 n) 2 0 _ refl (opened_gives open_codes (λ c l h. within_both 1 15 c (omega arith) h) s)))

-- ---- Calls on a block: a test that 1 and all codes from 3 to n pass

module _ (t : ℕ → Bool) (n : ℕ) (most : 16 ≤ n) (one : t 1 ≡ true) (rest : (c : ℕ) → 3 ≤ c → c ≤ n → t c ≡ true) where
  file_gives : (s : List ℕ) → Gives t (opened_file s)
  unfolding opened_file
  file_gives s =
      checks (Coded t) (leb (length s) 1073741824) 1 0 _ one (opened_gives t (λ c l h. rest c l (omega arith)) s)

  header_gives : (s : List ℕ) (start : ℕ) → Gives t (header_at s start)
  unfolding header_at frame_at
  header_gives s start =
      let w = take (start + 65536) s in
      steps (Coded t) (present ((opening_at w start)) 3 start) _ (presence (Coded t) ((opening_at w start)) 3 start (rest 3 (omega arith) (omega arith)))
      (λ left. steps (Coded t) (present ((first_from ends_body w (suc left))) 5 start) _
      (presence (Coded t) ((first_from ends_body w (suc left))) 5 start (rest 5 (omega arith) (omega arith)))
      (λ right. checks (Coded t) (eqb (byte w right) 125) 4 right _ (rest 4 (omega arith) (omega arith))
      (steps (Coded t) (present ((closing_at w right)) 5 start) _
      (presence (Coded t) ((closing_at w right)) 5 start (rest 5 (omega arith) (omega arith))) (λ next. no_error (Coded t) _))))

  statements_give : (s : List ℕ) (start : ℕ) (h : Header) → Gives t (statements_of s start h)
  unfolding statements_of
  statements_give s start h =
      steps (Coded t) (present (statements_from (body_of s h) (suc h.left)) 6 start) _
      (presence (Coded t) (statements_from (body_of s h) (suc h.left)) 6 start (rest 6 (omega arith) (omega arith)))
      (λ ts. checks (Coded t) (every (is_short (body_of s h)) ts) 7 start _ (rest 7 (omega arith) (omega arith))
      (checks (Coded t) (are_distinct (map (key (body_of s h)) ts)) 8 start _ (rest 8 (omega arith) (omega arith)) (no_error (Coded t) ts)))

  entries_give : (s : List ℕ) (start : ℕ) → Gives t (entries_at s start)
  unfolding entries_at
  entries_give s start =
      steps (Coded t) (header_at s start) _ (header_gives s start)
      (λ h. steps (Coded t) (statements_of s start h) _ (statements_give s start h) (λ ts. no_error (Coded t) _))

  general_gives : (s : List ℕ) (rows : List Row) (row : Row) → Gives t (general_entries s rows row)
  unfolding general_entries
  general_gives s rows row = either (eqb row.kind 1 && is_general (slice_get rows 0))
    where
      either : (b : Bool) → Gives t (cond b (entries_at s 0) (Ok []))
      either true = entries_give s 0
      either false = no_error (Coded t) []

  view-gives : (s : List ℕ) (block : ℕ) → Gives t (view_of s block)
  unfolding view_of
  view-gives s block =
      steps (Coded t) (opened_file s) _ (file_gives s)
      (λ rows. steps (Coded t) (present (slice_get rows block) 16 0) _ (presence (Coded t) (slice_get rows block) 16 0 (rest 16 (omega arith) most))
      (λ row. steps (Coded t) (entries_at s row.start) _ (entries_give s row.start)
      (λ own. steps (Coded t) (general_entries s rows row) _ (general_gives s rows row) (λ general. no_error (Coded t) _))))

  entry_gives : (s : List ℕ) (block : ℕ) (key : List ℕ) → Gives t (entry_of s block key)
  unfolding entry_of
  entry_gives s block key =
      steps (Coded t) (view_of s block) _ (view-gives s block)
      (λ b. presence (Coded t) (lookup_in b key) 16 0 (rest 16 (omega arith) most))

  described-gives : 21 ≤ n → (b : View) → Gives t (description_in b)
  described-gives all b =
      record { hold = λ {e} p. let f = (description_errors b).hold p in rest e.code (omega arith) (omega arith) }

  array_gives : 21 ≤ n → (s : List ℕ) (block : ℕ) → Gives t (array_of s block)
  unfolding array_of
  array_gives all s block =
      steps (Coded t) (view_of s block) _ (view-gives s block)
      (λ b. steps (Coded t) (description_in b) _ (described-gives all b) (λ d. no_error (Coded t) _))

-- The codes of `find` and those of `describe` are among those of the calls that go on from there.
find_all : (c : ℕ) → 3 ≤ c → c ≤ 16 → find_codes c ≡ true
unfolding find_codes
find_all c l h = or_right (eqb c 1) (within 3 16 c) (within_both 3 16 c l h)

describe_all : (c : ℕ) → 3 ≤ c → c ≤ 21 → describe_codes c ≡ true
unfolding describe_codes
describe_all c l h = or_right (eqb c 1) (within 3 21 c) (within_both 3 21 c l h)

number_all : (c : ℕ) → 3 ≤ c → c ≤ 16 → number_codes c ≡ true
unfolding number_codes
number_all c l h = or_left (find_codes c) (eqb c 18) (find_all c l h)

real_all : (c : ℕ) → 3 ≤ c → c ≤ 16 → real_codes c ≡ true
unfolding real_codes
real_all c l h = or_left (find_codes c) (eqb c 18 || eqb c 27) (find_all c l h)

text_all : (c : ℕ) → 3 ≤ c → c ≤ 16 → text_codes c ≡ true
unfolding text_codes
text_all c l h = or_left (find_codes c) (eqb c 25 || eqb c 22) (find_all c l h)

array_all : (c : ℕ) → 3 ≤ c → c ≤ 21 → array_codes c ≡ true
unfolding array_codes
array_all c l h = or_left (describe_codes c) (eqb c 24 || eqb c 22) (describe_all c l h)

stored_all : (c : ℕ) → 3 ≤ c → c ≤ 21 → stored_codes c ≡ true
unfolding stored_codes
stored_all c l h = or_left (describe_codes c) (eqb c 24) (describe_all c l h)

pixel_all : (c : ℕ) → 3 ≤ c → c ≤ 21 → pixel_codes c ≡ true
unfolding pixel_codes
pixel_all c l h = or_left (describe_codes c) (eqb c 23) (describe_all c l h)

module _ (s : List ℕ) (block : ℕ) where
  pub find_gives : (key : List ℕ) → Gives find_codes (found s block key)
  unfolding found find_codes
  find_gives key =
      steps (Coded find_codes) (entry_of s block key) _ (entry_gives find_codes 16 (omega arith) refl find_all s block key) (λ e. no_error (Coded find_codes) _)

  pub number_gives : (key : List ℕ) → Gives number_codes (whole_number_of s block key)
  unfolding whole_number_of number_codes find_codes
  number_gives key =
      steps (Coded number_codes) (entry_of s block key) _ (entry_gives number_codes 16 (omega arith) refl number_all s block key)
      (λ e. presence (Coded number_codes) (whole_number e.value) 18 0 refl)

  pub real_gives : (key : List ℕ) → Gives real_codes (real_in s block key)
  unfolding real_in real_of judged real_codes find_codes
  real_gives key =
      steps (Coded real_codes) (entry_of s block key) _ (entry_gives real_codes 16 (omega arith) refl real_all s block key)
      (λ e. steps (Coded real_codes) (present (numeral_of e.value) 18 0) _ (presence (Coded real_codes) (numeral_of e.value) 18 0 refl)
      (λ x. checks (Coded real_codes) (is_bounded x) 27 0 _ refl (no_error (Coded real_codes) _)))

  pub describe_gives : Gives describe_codes (description_of s block)
  unfolding description_of describe_codes
  describe_gives =
      steps (Coded describe_codes) (view_of s block) _ (view-gives describe_codes 21 (omega arith) refl describe_all s block)
      (λ b. described-gives describe_codes 21 (omega arith) refl describe_all (omega arith) b)

  pub stored_gives : (order : ℕ) → Gives stored_codes (stored_array s block order)
  unfolding stored_array stored_with stored_codes describe_codes
  stored_gives order =
      steps (Coded stored_codes) (view_of s block) _ (view-gives stored_codes 21 (omega arith) refl stored_all s block)
      (λ b. steps (Coded stored_codes) (description_in b) _ (described-gives stored_codes 21 (omega arith) refl stored_all (omega arith) b)
      (λ d. checks (Coded stored_codes) (is_order order) 24 0 _ refl (no_error (Coded stored_codes) _)))

  pub pixel_gives : (i1 i2 i3 : ℕ) → Gives pixel_codes (pixel_in s block i1 i2 i3)
  unfolding pixel_in pixel_codes describe_codes
  pixel_gives i1 i2 i3 =
      steps (Coded pixel_codes) (array_of s block) _ (array_gives pixel_codes 21 (omega arith) refl pixel_all (omega arith) s block)
      (λ a. checks (Coded pixel_codes) (is_index a.description i1 i2 i3) 23 0 _ refl (no_error (Coded pixel_codes) _))

-- ---- Calls that write into a lent buffer

-- A check that is a step of its own, then the rest.
after : {A B : Type 0} (t : ℕ → Bool) (o : Outcome A) (rest : Outcome B) → Gives t o → Gives t rest → Gives t (o >> rest)
after t (Ok x) rest g h = h
after t (Err e) rest g h = one_error (Coded t) e (g.hold refl)

written_gives : (t : ℕ → Bool) → t 22 ≡ true → (o : Outcome (List ℕ)) (d : List ℕ) → Gives t o → Gives t (length_written o d)
unfolding length_written
written_gives t h (Ok w) d g = room (leb (length w) (length d))
  where
    room : (b : Bool) → Gives t (cond b (Ok (length w)) (refused 22 0))
    room true = no_error (Coded t) (length w)
    room false = one_error (Coded t) (error_at 22 0) h
written_gives t h (Err e) d g = one_error (Coded t) e (g.hold refl)

short_gives : (t : ℕ → Bool) → t 25 ≡ true → (l : List ℕ) → Gives t (short_text l)
unfolding short_text
short_gives t h l = short (leb (length l) 1023)
  where
    short : (b : Bool) → Gives t (cond b (Ok l) (refused 25 0))
    short true = no_error (Coded t) l
    short false = one_error (Coded t) (error_at 25 0) h

module _ (d : List ℕ) where
  pub text_gives : (s : List ℕ) (block : ℕ) (key : List ℕ) → Gives text_codes (length_written (text_in s block key) d)
  unfolding text_in text_codes find_codes
  text_gives s block key =
      written_gives text_codes refl (text_in s block key) d
      (steps (Coded text_codes) (entry_of s block key) _ (entry_gives text_codes 16 (omega arith) refl text_all s block key)
      (λ e. short_gives text_codes refl (text_of e.value)))

  pub array_read_gives : (s : List ℕ) (block order : ℕ) → Gives array_codes (length_written (array_in s block order) d)
  unfolding array_in array_codes describe_codes
  array_read_gives s block order =
      written_gives array_codes refl (array_in s block order) d
      (steps (Coded array_codes) (array_of s block) _ (array_gives array_codes 21 (omega arith) refl array_all (omega arith) s block)
      (λ a. checks (Coded array_codes) (is_order order) 24 0 _ refl (no_error (Coded array_codes) _)))

  pub escape_gives : (l : List ℕ) → Gives write_codes (length_written (escaped l) d)
  unfolding escaped write_codes
  escape_gives l =
      written_gives write_codes refl (escaped l) d
      (checks (Coded write_codes) (every text_byte l) 24 0 _ refl (after write_codes (short_text l) _ (short_gives write_codes refl l) (no_error (Coded write_codes) (quoted_text l))))

  pub unescape_gives : (l : List ℕ) → Gives write_codes (length_written (unescaped l) d)
  unfolding unescaped write_codes
  unescape_gives l =
      written_gives write_codes refl (unescaped l) d
      (checks (Coded write_codes) (every value_byte l) 24 0 _ refl (short_gives write_codes refl (text_of (value_of l))))

  pub write_gives : (f : Frame) (title pixels : List ℕ) → Gives write_codes (length_written (written_file f title pixels) d)
  unfolding written_file write_codes
  write_gives f title pixels =
      written_gives write_codes refl (written_file f title pixels) d
      (checks (Coded write_codes) (frame_allowed f) 24 0 _ refl
      (checks (Coded write_codes) (eqb (length pixels) (product (frame_dims f) * (frame_type f).width)) 24 0 _ refl
      (checks (Coded write_codes) (every text_byte title) 24 0 _ refl
      (checks (Coded write_codes) (leb (length (file_of f title pixels)) 1073741824) 24 0 _ refl
      (after write_codes (short_text title) _ (short_gives write_codes refl title) (no_error (Coded write_codes) (file_of f title pixels)))))))

  pub list_gives : (l : List ℕ) → Gives list_codes (length_written (Ok l) d)
  unfolding list_codes
  list_gives l = written_gives list_codes refl (Ok l) d (no_error (Coded list_codes) l)

-- ---- Code 0

pub no_zero : (t : ℕ → Bool) → IsCodes t → t 0 ≡ false
unfolding open_codes find_codes number_codes real_codes text_codes describe_codes array_codes stored_codes pixel_codes write_codes list_codes
no_zero t of-open = refl
no_zero t of-find = refl
no_zero t of_number = refl
no_zero t of-real = refl
no_zero t of-text = refl
no_zero t of-describe = refl
no_zero t of_array = refl
no_zero t of-stored = refl
no_zero t of-pixel = refl
no_zero t of-write = refl
no_zero t of-list = refl
