-- The checks of the writer, in their order.
use Rattle.std.specs.Prelude.{Ok, Err}
use Rattle.scan.specs.Outcome.{Outcome, refused, require, ◌>>◌}
use mathlib.Core.Path.{◌≡◌, refl, sym, ap, ◌∙◌}
use mathlib.Core.Bool.{Bool, true, false, ◌&&◌, false≢true}
use mathlib.Core.List.{List, ◌++◌}
use Prim.Native.Nat.{ℕ, ◌+◌, ◌*◌, ◌≤◌, ◌<◌}
use native.Mathlib.Omega.{arith}
use borrow.Author.Tests.{le-leb, lt-leb, leb-true, leb-false, eqb-true}
use lib.Dec.{leb}
use lib.ListN.{length}
use Rattle.scan.proofs.Cases.{by_test, both_true, ok-failed}
use Rattle.text.specs.Text.{short_text}
use Rattle.raster.specs.Position.{product}
use Rattle.frame.specs.File.{frame_dims, frame_type, frame_allowed, file_data, file_of, written_file}
use Rattle.blocks.specs.Limits.{file_limit}
use Rattle.text.specs.Text.{text_limit}
use Rattle.frame.specs.declared.Frame.{Frame}
use Rattle.writer.specs.Parts.{frame_fits, arguments_allowed, size_of, short_titled, limited, length_of}
use Rattle.writer.specs.Front.{front, titled, closed}
use Rattle.writer.proofs.FileLaws.{file_made, data_within, title_within}
use Rattle.rendering.specs.Render.{padding}
use Rattle.frame.proofs.PixelLengths.{data_length}
use Rattle.text.proofs.Buffers.{of_equal}
use Rattle.frame.proofs.Allowed.{written_says}
use Rattle.scan.specs.Buffer.{length_written, buffer_after}
use Rattle.scan.specs.declared.Error.{Error}

-- ---- The arguments

-- Three checks with one code are one.
three_checks : {A : Type 0} (a b c : Bool) (rest : Outcome A) → (a && b && c) ≡ false
    → (require a 24 0 >> (require b 24 0 >> (require c 24 0 >> rest))) ≡ refused 24 0
three_checks false b c rest e = refl
three_checks true false c rest e = refl
three_checks true true false rest e = refl
three_checks true true true rest e = absurd (false≢true (sym e))

three_pass : {A : Type 0} (a b c : Bool) (rest : Outcome A) → (a && b && c) ≡ true
    → (require a 24 0 >> (require b 24 0 >> (require c 24 0 >> rest))) ≡ rest
three_pass false b c rest e = absurd (false≢true e)
three_pass true false c rest e = absurd (false≢true e)
three_pass true true false rest e = absurd (false≢true e)
three_pass true true true rest e = refl

module _ (f : Frame) (title pixels : List ℕ) where
  pub arguments_fail : arguments_allowed f title pixels ≡ false → written_file f title pixels ≡ refused 24 0
  unfolding written_file
  arguments_fail e = three_checks (frame_allowed f) _ _ _ e

  module _ (e : arguments_allowed f title pixels ≡ true) where
    pub arguments_pass : written_file f title pixels ≡ limited title (file_of f title pixels)
    unfolding written_file limited short_titled
    arguments_pass = three_pass (frame_allowed f) _ _ (limited title (file_of f title pixels)) e

    fits : frame_fits f pixels ≡ true
    fits = (both_true (frame_fits f pixels) _ e).0

    pub frame_passes : frame_allowed f ≡ true
    frame_passes = (both_true (frame_allowed f) _ fits).0

    pub length_passes : length pixels ≡ product (frame_dims f) * (frame_type f).width
    length_passes = eqb-true _ _ (both_true (frame_allowed f) _ fits).1

-- ---- The limits

module _ (title file : List ℕ) where
  pub over_limit : file_limit < length file → limited title file ≡ refused 24 0
  unfolding limited
  over_limit h = rw (lt-leb (length file) file_limit h)

  pub in_limit : length file ≤ file_limit → limited title file ≡ short_titled title file
  unfolding limited
  in_limit h = rw (le-leb (length file) file_limit h)

  pub title_long : text_limit < length title → short_titled title file ≡ refused 25 0
  unfolding short_titled short_text
  title_long h = rw (lt-leb (length title) text_limit h)

  pub title_short : length title ≤ text_limit → short_titled title file ≡ Ok file
  unfolding short_titled short_text
  title_short h = rw (le-leb (length title) text_limit h)

-- Of two parts in a whole.
pub part_over : (a b whole : ℕ) → (leb a file_limit && leb b file_limit) ≡ false → a ≤ whole → b ≤ whole → file_limit < whole
part_over a b whole e h k =
    by_test (leb whole file_limit)
    (λ q. let l = leb-true whole file_limit q in absurd (false≢true (sym e ∙ rw (le-leb a file_limit (omega arith), le-leb b file_limit (omega arith)))))
    (λ q. leb-false whole file_limit q)

-- ---- How long the data is

-- What is known of it.
pub record Sized (f : Frame) (title pixels : List ℕ) (size : ℕ) : Type 0 where
  pub allowed : arguments_allowed f title pixels ≡ true
  pub is : size ≡ length (file_data f pixels)
  pub small : size ≤ file_limit
  pub title_small : length title ≤ file_limit

-- The same error of another kind of value.
refused_too : {A B : Type 0} {e x : Error} → ◌≡◌ {A = Outcome A} (Err e) (Err x) → ◌≡◌ {A = Outcome B} (Err e) (Err x)
refused_too {e = e} {x} h = let same : ◌≡◌ {A = Error} e x = cc in ap Err same

module _ (f : Frame) (title pixels : List ℕ) where
  -- The checks that fail or pass.
  pub size_unallowed : arguments_allowed f title pixels ≡ false → refused 24 0 ≡ size_of f title pixels
  unfolding size_of
  size_unallowed a = rw a refl

  module _ {size : ℕ} (n : size ≡ length pixels + padding (length pixels)) (a : arguments_allowed f title pixels ≡ true) where
    pub size_unfit : (leb size file_limit && leb (length title) file_limit) ≡ false → refused 24 0 ≡ size_of f title pixels
    unfolding size_of
    size_unfit p = let q = rw n at p in rw (a, q) refl

    pub size_fit : (leb size file_limit && leb (length title) file_limit) ≡ true → Ok size ≡ size_of f title pixels
    unfolding size_of
    size_fit p = let q = rw n at p in rw (a, q) (ap Ok n)

  -- Where it has a length, this is known;
  pub sized : {size : ℕ} → size_of f title pixels ≡ Ok size → Sized f title pixels size
  unfolding size_of
  sized {size} h =
      let n = length pixels + padding (length pixels) in
      let fit = leb n file_limit && leb (length title) file_limit in
      by_test (arguments_allowed f title pixels)
      (λ a. by_test fit
      (λ p.
      let e : n ≡ size = cc (rw (a, p) at h) in
      let both = both_true (leb n file_limit) _ p in
      record {
        allowed = a;
        is = sym e ∙ sym (data_length f pixels (length_passes f title pixels a));
        small = omega (arith, e, leb-true n file_limit both.0);
        title_small = leb-true (length title) file_limit both.1;
      })
      (λ p. absurd (ok-failed (sym (rw (a, p) at h)))))
      (λ a. absurd (ok-failed (sym (rw a at h))))

  -- and where it is refused, the file is.
  pub size_refused : {e : Error} → size_of f title pixels ≡ Err e → written_file f title pixels ≡ Err e
  unfolding size_of
  size_refused {e} h =
      let n = length pixels + padding (length pixels) in
      let fit = leb n file_limit && leb (length title) file_limit in
      by_test (arguments_allowed f title pixels)
      (λ a. by_test fit
      (λ p. absurd (ok-failed (rw (a, p) at h)))
      (λ p.
      let over = part_over n (length title) (length (file_of f title pixels)) p
      (omega (arith, data_length f pixels (length_passes f title pixels a), data_within f title pixels)) (title_within f title pixels) in
      arguments_pass f title pixels a ∙ over_limit title (file_of f title pixels) over ∙ refused_too (rw (a, p) at h)))
      (λ a. arguments_fail f title pixels a ∙ refused_too (rw a at h))

-- ---- How long the file is

pub length_refused : {code : ℕ} {r : Outcome ℕ} {o : Outcome (List ℕ)} → r ≡ refused code 0 → o ≡ refused code 0 → r ≡ length_of o
unfolding length_of
length_refused e h = e ∙ sym (ap length_of h)

pub length_is : {n : ℕ} {file : List ℕ} {o : Outcome (List ℕ)} → n ≡ length file → o ≡ Ok file → Ok n ≡ length_of o
unfolding length_of
length_is e h = ap Ok e ∙ sym (ap length_of h)

-- Of the front that the header has, and the data.
pub length_made : {f : Frame} {title pixels first : List ℕ} {size : ℕ} → Sized f title pixels size → first ≡ front f size
    → length_of (limited title (closed (titled first title) ++ file_data f pixels)) ≡ length_of (written_file f title pixels)
length_made {f} {title} {pixels} s e =
    ap (λ (l : List ℕ). length_of (limited title l)) (file_made f title pixels s.is e)
    ∙ ap length_of (sym (arguments_pass f title pixels s.allowed))

-- A file has that length.
pub file_written : (o : Outcome (List ℕ)) {n : ℕ} → length_of o ≡ Ok n → (file : List ℕ) × ((o ≡ Ok file) × (n ≡ length file))
unfolding length_of
file_written (Ok file) h = (file, (refl, sym (cc h)))
file_written (Err x) h = absurd (ok-failed (sym h))

-- Where it has a length, the front and the data are the file.
pub record Made (f : Frame) (title pixels first : List ℕ) (n : ℕ) : Type 0 where
  pub is : written_file f title pixels ≡ Ok (closed (titled first title) ++ file_data f pixels)
  pub length_is : n ≡ length (closed (titled first title) ++ file_data f pixels)
  pub short : length title ≤ text_limit

pub made : {f : Frame} {title pixels first : List ℕ} {size n : ℕ} → Sized f title pixels size → first ≡ front f size
    → length_of (limited title (closed (titled first title) ++ file_data f pixels)) ≡ Ok n → Made f title pixels first n
made {f} {title} {pixels} s e h =
    let w = file_written _ (sym (length_made s e) ∙ h) in
    let says = written_says f title pixels w.1.0 in
    let same = says.is ∙ sym (file_made f title pixels s.is e) in
    record { is = w.1.0 ∙ ap Ok same; length_is = w.1.1 ∙ ap length same; short = says.short }

-- ---- What the call answers

-- Where the file is refused, so is the call,
pub refuses_with : {o : Outcome (List ℕ)} (d : List ℕ) {e : Error} → o ≡ Err e → (Err e ≡ length_written o d) × (d ≡ buffer_after o d)
unfolding length_written buffer_after
refuses_with d {e} h = of_equal d (Err e) _ (sym h) (refl, refl)

-- and where it has no length.
pub failed_written : (o : Outcome (List ℕ)) (d : List ℕ) {e : Error} → length_of o ≡ Err e → (Err e ≡ length_written o d) × (d ≡ buffer_after o d)
unfolding length_of length_written buffer_after
failed_written (Ok file) d h = absurd (ok-failed h)
failed_written (Err x) d h = (sym h, refl)
