-- The judging of one block, step by step, on plain values.
use Rattle.std.specs.Prelude.{Option, None, Some, Ok, Err, is_some, is_none, not}
use Rattle.std.specs.Option.{option_copied}
use denote.Ref.{Bor}
use Rattle.scan.specs.Outcome.{Outcome, refused}
use mathlib.Core.Path.{◌≡◌, sym, ap, subst, ◌∙◌}
use mathlib.Core.Bool.{Bool, true, false}
use mathlib.Core.List.{List}
use Prim.Native.Nat.{ℕ, ◌+◌, ◌%◌}
use native.Mathlib.Numerals.{add-one}
use lib.Dec.{eqb, leb}
use lib.ListN.{length, take}
use Rattle.scan.specs.declared.Error.{Error}
use Rattle.header.specs.Checks.{statements_checked}
use Rattle.header.specs.Entries.{value_in}
use Rattle.header.specs.Entry.{Entry}
use Rattle.header.specs.Frame.{header_at}
use Rattle.header.specs.declared.Header.{Header}
use Rattle.header.proofs.Checks.{Checks, checked_says}
use Rattle.blocks.specs.Judging.{rules_for, role_of, is_whole_or_absent, length_allowed, row_with, judged, block_at}
use Rattle.blocks.specs.Counting.{counting_in, size_value}
use Rattle.blocks.specs.Keys.{FileNameKey, HeaderSizeKey}
use Rattle.blocks.specs.Reading.{number_or}
use Rattle.blocks.specs.declared.Accepted.{Accepted}
use Rattle.blocks.specs.declared.FileRules.{FileRules}
use Rattle.blocks.specs.declared.Role.{Role}
use Rattle.blocks.specs.declared.Row.{Row}
use Rattle.reading.specs.Entries.{entries_from}
use Rattle.reading.specs.Lengths.{is_readable, is_kept, SizeSaid}
use Rattle.reading.specs.declared.values.HeaderSize.{HeaderSize}
use Rattle.reading.specs.declared.values.HeaderSize.TheVariants.{Kept, Other}
use Rattle.judging.proofs.LengthLaws.{length_other, length_kept}

-- ---- By what its header says

-- Whether a value is lent, as the code tests it.
pub none_lent : {A : Type 0} (o : Option (Bor A)) {v : Option A} → option_copied o ≡ v → is_none v ≡ not (is_some o)
none_lent None e = rw (sym e)
none_lent (Some x) e = rw (sym e)

module _ (r : FileRules) (es : List Entry) (header : ℕ) {said : HeaderSize}
    (q : SizeSaid header (value_in HeaderSizeKey (counting_in r.kind es)) said) where
  -- EDF_HeaderSize is a whole number or absent, and whether the header may have its length.
  abbrev pub Allowed : Bool → Type 0
  Allowed allowed = (is_whole_or_absent (value_in HeaderSizeKey (counting_in r.kind es)) ≡ true) × (length_allowed r es header ≡ allowed)

  pub other_length : said ≡ Other → Allowed false
  other_length e = (sym q.whole ∙ ap is_readable e, length_other r es header (sym q.is_length ∙ ap is_kept e))

  pub kept_length : said ≡ Kept → {even : Bool} → even ≡ eqb (header % r.boundary) 0 → Allowed even
  kept_length e m = (sym q.whole ∙ ap is_readable e, length_kept r es header (sym q.is_length ∙ ap is_kept e) ∙ sym m)

module _ (r : FileRules) (b : Bool) (end start header : ℕ) (es : List Entry) {role : Role} {size : ℕ} (p : Some role ≡ role_of r b es)
    (f : Some size ≡ number_or 0 0 (size_value r.kind es)) {allowed : Bool}
    (a : (is_whole_or_absent (value_in HeaderSizeKey (counting_in r.kind es)) ≡ true) × (length_allowed r es header ≡ allowed)) where
  pub names_file : is_none (value_in FileNameKey (counting_in r.kind es)) ≡ false → refused 10 start ≡ judged r b end start header es
  unfolding judged
  names_file n = rw (sym p, sym f, a.0, n)

  module _ (n : is_none (value_in FileNameKey (counting_in r.kind es)) ≡ true) where
    pub wrong_length : allowed ≡ false → refused 11 start ≡ judged r b end start header es
    unfolding judged
    wrong_length l = rw (sym p, sym f, a.0, n, a.1, l)

    module _ (l : allowed ≡ true) where
      pub too_far : leb (start + header + size) end ≡ false → refused 12 start ≡ judged r b end start header es
      unfolding judged
      too_far u = rw (sym p, sym f, a.0, n, a.1, l, u)

      pub accepted : leb (start + header + size) end ≡ true → {row : Row} → row ≡ row_with start header size role
          → Ok (record { row = row; next = start + header + size; rules = r }) ≡ judged r b end start header es
      unfolding judged
      accepted u e = rw (sym p, sym f, a.0, n, a.1, l, u, e)

-- ---- After the frame

module _ (s : List ℕ) (given : FileRules) (b : Bool) (start : ℕ) (h : Header) (framed : Ok h ≡ header_at s start) where
  -- The checks, as the code makes them.
  checks : (o : Outcome (Unit {0})) → o ≡ statements_checked (take h.right s) (h.left + 1) start → Checks s start h o
  checks o e =
      subst (Checks s start h) (sym (e ∙ ap (λ (k : ℕ). statements_checked (take h.right s) k start) (add-one h.left))) (checked_says s start h)

  pub unparsed : {x : Error} → Err x ≡ statements_checked (take h.right s) (h.left + 1) start → Err x ≡ block_at s given b start
  unfolding block_at
  unparsed {x} e = rw (sym framed, checks (Err x) e)

  module _ (checked : Ok tt ≡ statements_checked (take h.right s) (h.left + 1) start) where
    pub unruled : None ≡ rules_for given b (entries_from (take h.right s) (h.left + 1)) → refused 9 start ≡ block_at s given b start
    unfolding block_at
    unruled e = let c = checks (Ok tt) checked in rw (sym framed, c.1, sym c.2, sym (add-one h.left), sym e)

    pub ruled : {r : FileRules} → Some r ≡ rules_for given b (entries_from (take h.right s) (h.left + 1)) → {x : Outcome Accepted}
        → x ≡ judged r b (length s) start h.length (entries_from (take h.right s) (h.left + 1)) → x ≡ block_at s given b start
    unfolding block_at
    ruled e q = let c = checks (Ok tt) checked in rw (sym framed, c.1, sym c.2, sym (add-one h.left), sym e) q

pub unframed : (s : List ℕ) (given : FileRules) (b : Bool) (start : ℕ) {x : Error} → Err x ≡ header_at s start → Err x ≡ block_at s given b start
unfolding block_at
unframed s given b start e = rw (sym e)
