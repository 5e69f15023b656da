-- What the contracts of calls say of an answer: the variant that an outcome is, and the bytes that a call wrote.
use Rattle.std.specs.Prelude.{Ok, Err, ℕ}
use Rattle.scan.specs.Outcome.{Outcome, require, ◌>>◌}
use mathlib.Core.Path.{◌≡◌, refl, sym, ap, ◌∙◌}
use mathlib.Core.Logic.{◌↔◌}
use mathlib.Core.Bool.{Bool, true, false}
use mathlib.Core.List.{List, ◌++◌, map}
use Prim.Native.Nat.{ℕ, ◌+◌, ◌*◌, ◌≤◌, ◌<◌}
use native.Mathlib.Omega.{arith}
use borrow.Author.Tests.{le-leb, lt-leb, lt-ltb, leb-true}
use lib.Dec.{leb}
use lib.ListN.{length, take, drop, length-map}
use lib.Seq.{take_at, drop_at}
use Rattle.scan.specs.Buffer.{length_written, buffer_after}
use Rattle.scan.specs.Byte.{part_of}
use Rattle.scan.specs.declared.Error.{Error}
use Rattle.scan.proofs.Cases.{by_test, by_order, ok-failed}
use Rattle.text.specs.Text.{every, text_byte, value_byte, text_of, short_text, quoted_text, escaped, unescaped}
use Rattle.text.specs.Value.{value_of}
use Rattle.text.proofs.Parts.{every-each, each-every}
use Rattle.text.proofs.Quoted.{quoted_bytes, quoted_length}
use Rattle.header.specs.Entry.{Entry}
use Rattle.text.proofs.RoundTrip.{text_back}
use Rattle.blocks.specs.Grammar.{Partition, Cut, block_of}
use Rattle.blocks.specs.Opening.{opened_file, opened_into}
use Rattle.blocks.specs.declared.Row.{Row}
use Rattle.keyword.specs.Keyword.{view_of, entry_of, text_in}
use Rattle.description.specs.Describe.{description_in, description_of}
use Rattle.description.specs.Shape.{array_type, array_dims}
use Rattle.description.specs.declared.Description.{Description}
use Rattle.description.proofs.DescribedLaws.{step_ok, check_ok, same_ok}
use Rattle.array.specs.Delivery.{data_of, array_of, array_in, is_index, pixel_in}
use Rattle.array.proofs.Main.{length_of_array, pixel_of_array}
use Rattle.array.proofs.ReadLaws.{array_is, no_block, no_array, no_pixel}
use Rattle.raster.specs.Bytes.{number_of}
use Rattle.raster.specs.Pixels.{pixel_of}
use Rattle.raster.specs.Position.{product}
use Rattle.raster.specs.Strided.{Octets}
use Rattle.strides.proofs.RowLaws.{length_element}
use Rattle.stored.specs.Stored.{stored_array}
use Rattle.stored.specs.declared.StoredArray.{StoredArray}
use Rattle.stored.proofs.Laws.{stored_seen}
use Rattle.frame.specs.declared.Frame.{Frame}
use Rattle.frame.proofs.Allowed as writer
use Rattle.edf.specs.Calls.{IntoBuffer, Puts, Open, Describe, ReadArray, Stores}
use Rattle.edf.specs.Opening.{Allowed}
use Rattle.edf.proofs.OpeningLaws.{promised, counts_failed}

-- ---- An answer is a exactly if what the definition gives is a

pub answers_as : {A : Type 0} {r o : Outcome A} (a : Outcome A) → r ≡ o → (r ≡ a) ↔ (o ≡ a)
answers_as a h = (λ e. sym h ∙ e, λ e. h ∙ e)

-- ---- A call that writes

module _ (w before : List ℕ) where
  length_fits : length w ≤ length before → length_written (Ok w) before ≡ Ok (length w)
  unfolding length_written
  length_fits h = rw (le-leb (length w) (length before) h)

  buffer_fits : length w ≤ length before → buffer_after (Ok w) before ≡ w ++ drop (length w) before
  unfolding buffer_after
  buffer_fits h = rw (le-leb (length w) (length before) h)

  no_room : {n : ℕ} → length before < length w → length_written (Ok w) before ≡ Ok n → ⊥
  unfolding length_written
  no_room h e = ok-failed (sym (rw (lt-leb (length w) (length before) h) at e))

-- Where there is room, the call answers how many bytes and puts them at the front.
pub with_room : {o : Outcome (List ℕ)} {w : List ℕ} → o ≡ Ok w → {before : List ℕ} {r : Outcome ℕ} {after : List ℕ}
    → length w ≤ length before → IntoBuffer o before r after → Puts w before r after
with_room {o} {w} e {before} {r} h c = (
  (c.answers ∙ ap (λ (x : Outcome (List ℕ)). length_written x before) e ∙ length_fits w before h),
  c.leaves ∙ ap (λ (x : Outcome (List ℕ)). buffer_after x before) e ∙ buffer_fits w before h,
)

-- A call that answered a length wrote so many bytes, and nothing else.
pub record Wrote (o : Outcome (List ℕ)) (before after : List ℕ) (n : ℕ) : Type 0 where
  pub bytes : o ≡ Ok (take n after)
  pub count : length (take n after) ≡ n
  pub rest : drop n after ≡ drop n before

pub wrote : (o : Outcome (List ℕ)) {before after : List ℕ} {n : ℕ} → IntoBuffer o before (Ok n) after → Wrote o before after n
unfolding length_written
wrote (Err x) c = absurd (ok-failed c.answers)
wrote (Ok w) {before} {after} {n} c =
    by_order (length w) (length before)
    (λ h.
    let long : length w ≡ n = sym (same_ok (c.answers ∙ length_fits w before h)) in
    let left : after ≡ w ++ drop (length w) before = c.leaves ∙ buffer_fits w before h in
    let front : take n after ≡ w = ap (take n) left ∙ take_at w (drop (length w) before) n long in
    record {
      bytes = ap Ok (sym front);
      count = ap length front ∙ long;
      rest = ap (drop n) left ∙ drop_at w (drop (length w) before) n long ∙ ap (λ (k : ℕ). drop k before) long;
    })
    (λ h. absurd (no_room w before h (sym c.answers)))

buffer_short : (w before : List ℕ) → length before < length w → buffer_after (Ok w) before ≡ before
unfolding buffer_after
buffer_short w before h = rw (lt-leb (length w) (length before) h)

-- In an error the buffer is as it was.
pub kept : (o : Outcome (List ℕ)) {before after : List ℕ} {x : Error} → IntoBuffer o before (Err x) after → after ≡ before
unfolding buffer_after
kept (Err y) c = c.leaves
kept (Ok w) {before} c =
    by_order (length w) (length before) (λ h. absurd (ok-failed (sym (c.answers ∙ length_fits w before h))))
    (λ h. c.leaves ∙ buffer_short w before h)

-- An error of what is to be written is the answer.
pub refused_by : {o : Outcome (List ℕ)} {x : Error} → o ≡ Err x → {before after : List ℕ} {r : Outcome ℕ} → IntoBuffer o before r after
    → (r ≡ Err x) × (after ≡ before)
unfolding length_written buffer_after
refused_by {o} {x} e {before} {r = r} c = (
  (c.answers ∙ ap (λ (p : Outcome (List ℕ)). length_written p before) e),
  c.leaves ∙ ap (λ (p : Outcome (List ℕ)). buffer_after p before) e,
)

-- Two calls on the same give the same.
pub same_written : {o : Outcome (List ℕ)} {before : List ℕ} {r q : Outcome ℕ} {after left : List ℕ}
    → IntoBuffer o before r after → IntoBuffer o before q left → (r ≡ q) × (after ≡ left)
same_written {r = r} {q = q} c d =
    (c.answers ∙ sym d.answers, c.leaves ∙ sym d.leaves)

-- ---- Text

required : (b : Bool) {x : Unit {0}} → require b 24 0 ≡ Ok x → b ≡ true
required true e = refl
required false e = absurd (ok-failed (sym e))

short_text_lem : (t : List ℕ) {x : List ℕ} → short_text t ≡ Ok x → short_text t ≡ Ok t
unfolding short_text
short_text_lem t e = by_test (leb (length t) 1023) (λ q. rw q) (λ q. absurd (ok-failed (sym (rw q at e))))

-- ---- How long texts are at most

short_length : (t : List ℕ) {x : List ℕ} → short_text t ≡ Ok x → length x ≤ 1023
unfolding short_text
short_length t e =
    by_test (leb (length t) 1023) (λ q. rw (← same_ok (rw q at e)) (leb-true (length t) 1023 q)) (λ q. absurd (ok-failed (sym (rw q at e))))

pub escaped_fits : (t : List ℕ) {w : List ℕ} → escaped t ≡ Ok w → length w ≤ 2048
unfolding escaped
escaped_fits t {w} e =
    let p = check_ok (require (every text_byte t) 24 0) (short_text t >> Ok (quoted_text t)) w e in
    let q = check_ok (short_text t) (Ok (quoted_text t)) w p.2 in
    rw (← same_ok q.2) (omega (arith, quoted_length t, short_length t (short_text_lem t q.1)))

pub unescaped_fits : (v : List ℕ) {t : List ℕ} → unescaped v ≡ Ok t → length t ≤ 1023
unfolding unescaped
unescaped_fits v {t} e =
    let p = check_ok (require (every value_byte v) 24 0) (short_text (text_of (value_of v))) t e in
    short_length (text_of (value_of v)) p.2

pub text_fits : (s : List ℕ) (block : ℕ) (key : List ℕ) {t : List ℕ} → text_in s block key ≡ Ok t → length t ≤ 1023
unfolding text_in
text_fits s block key {t} e =
    let p = step_ok (entry_of s block key) (λ (x : Entry). short_text (text_of x.value)) t e in
    short_length (text_of p.0.value) p.2

-- Text in value form comes back.
pub unescaped_back : (t : List ℕ) {w : List ℕ} → escaped t ≡ Ok w → unescaped w ≡ Ok t
unfolding escaped unescaped
unescaped_back t {w} e =
    let p = check_ok (require (every text_byte t) 24 0) (short_text t >> Ok (quoted_text t)) w e in
    let q = check_ok (short_text t) (Ok (quoted_text t)) w p.2 in
    let bytes = quoted_bytes t (every-each text_byte t (required (every text_byte t) p.1)) in
    rw (← same_ok q.2, each-every value_byte (quoted_text t) bytes, text_back t) (short_text_lem t q.1)

-- ---- A described block

-- A block that has a description has an array of that description.
has_array : (s : List ℕ) (block : ℕ) (d : Description) → description_of s block ≡ Ok d
    → (l : List ℕ) × (array_of s block ≡ Ok (record { description = d; bytes = l }))
unfolding description_of
has_array s block d e =
    let p = step_ok (view_of s block) description_in d e in
    (data_of s p.0, sym (array_is s block p.0 (sym p.1) (sym p.2)))

index_test : (d : Description) (i1 i2 i3 : ℕ) → i1 < d.dim1 → i2 < d.dim2 → i3 < d.dim3 → is_index d i1 i2 i3 ≡ true
unfolding is_index
index_test d i1 i2 i3 h1 h2 h3 = rw (lt-ltb i1 d.dim1 h1, lt-ltb i2 d.dim2 h2, lt-ltb i3 d.dim3 h3)

-- Calls of `describe` and `read_array` on one block.
module _ (s : List ℕ) (block order : ℕ) {d : Description} {before after : List ℕ} {n : ℕ}
    (describe : Describe s block (Ok d)) (read : ReadArray s block order before (Ok n) after) where
  pub delivered-length : n ≡ product (array_dims d) * (array_type d).width
  delivered-length =
      let a = has_array s block d (sym describe.answers) in
      let r = wrote (array_in s block order) read in
      sym r.count ∙ length_of_array s block order _ (take n after) a.1 r.bytes

  pub delivered_pixel : Octets s → (i1 i2 i3 : ℕ) → i1 < d.dim1 → i2 < d.dim2 → i3 < d.dim3
      → let w = (array_type d).width in
      pixel_in s block i1 i2 i3
      ≡ Ok (pixel_of (array_type d).class w (number_of order (take w (drop (w * (i1 + d.dim1 * (i2 + d.dim2 * i3))) (take n after)))))
  delivered_pixel octets i1 i2 i3 h1 h2 h3 =
      let a = has_array s block d (sym describe.answers) in
      let r = wrote (array_in s block order) read in
      pixel_of_array s block order _ (take n after) a.1 r.bytes octets i1 i2 i3 (index_test d i1 i2 i3 h1 h2 h3)

-- A call of `stored_array`.
module _ {s : List ℕ} {block order : ℕ} {a : StoredArray} (call : Stores s block order (Ok a)) where
  pub stored_description : description_of s block ≡ Ok a.description
  stored_description = (stored_seen s block order a (sym call.answers)).0

  pub stored_long : a.span.length ≡ product (array_dims a.description) * (array_type a.description).width
  stored_long = (stored_seen s block order a (sym call.answers)).1.0

  pub stored_within : a.span.offset + a.span.length ≤ length s
  stored_within = (stored_seen s block order a (sym call.answers)).1.1

  pub part_long : length (part_of s a.span) ≡ a.span.length
  unfolding part_of
  part_long = rw (le-leb (a.span.offset + a.span.length) (length s) stored_within) (length_element a.span.length s a.span.offset stored_within)

-- ---- Opening

-- What `open` gives for a file with a partition.
pub opens_rows : {s : List ℕ} {rows : List Row} → Partition s rows → length s ≤ 1073741824 → {table left : List Row} {r : Outcome ℕ}
    → 256 ≤ length table → Open s table r left
    → (r ≡ Ok (length rows)) × (left ≡ rows ++ drop (length rows) table)
opens_rows {rows = rows} p small h o =
    let cut : Cut _ (map block_of rows) = record { rows = rows; partition = p; are = refl } in
    let allowed : Allowed _ _ = record { file = small; table = h } in
    let count = (promised o).count allowed (map block_of rows) cut in
    (rw (length-map rows block_of) at count, (promised o).rows allowed (map block_of rows) cut)

-- A written file is within the limit.
pub file_small : {f : Frame} {title pixels s : List ℕ} → writer.Writes f title pixels s → length s ≤ 1073741824
file_small w = rw w.is w.small

-- ---- A file that does not open

into_file : (s : List ℕ) (n : ℕ) → 256 ≤ n → opened_into n s ≡ opened_file s
unfolding opened_into opened_file
into_file s n h = rw (le-leb 256 n h)

-- The error of `open` with a table of enough rows is that of opening the file anew.
open_refused : {s : List ℕ} {table left : List Row} {x : Error} → 256 ≤ length table → Open s table (Err x) left
    → opened_file s ≡ Err x
open_refused {s} {table} h c = sym (into_file s (length table) h) ∙ counts_failed (opened_into (length table) s) (sym c.answers)

module _ {s : List ℕ} {table left : List Row} {x : Error} (rows : 256 ≤ length table) (refuses : Open s table (Err x) left)
    (block : ℕ) where
  no_view : view_of s block ≡ Err x
  unfolding view_of
  no_view = rw (open_refused rows refuses)

  pub no_entry_lem : (key : List ℕ) → entry_of s block key ≡ Err x
  unfolding entry_of
  no_entry_lem key = rw no_view

  pub no_description : description_of s block ≡ Err x
  unfolding description_of
  no_description = rw no_view

  pub array_refused : (order : ℕ) → array_in s block order ≡ Err x
  array_refused order = sym (no_array s block (no_block s block (sym no_view)) order)

  pub stored_refused : (order : ℕ) → stored_array s block order ≡ Err x
  unfolding stored_array
  stored_refused order = rw no_view

  pub pixel_refused : (i1 i2 i3 : ℕ) → pixel_in s block i1 i2 i3 ≡ Err x
  pixel_refused i1 i2 i3 = sym (no_pixel s block (no_block s block (sym no_view)) i1 i2 i3)
