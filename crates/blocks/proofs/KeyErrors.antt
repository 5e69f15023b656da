-- What the keys of one header decide: `judged` gives a row exactly if the grammar's rules on keys are kept, and each of errors 9 to
-- 12 exactly in its case.
use Rattle.std.specs.Prelude.{Option, Some, Ok, Err, is_none}
use Rattle.scan.specs.Outcome.{Outcome}
use mathlib.Core.Path.{◌≡◌, refl, sym, ap, ◌∙◌}
use mathlib.Core.Bool.{Bool, true, false, false≢true}
use mathlib.Core.List.{List}
use Prim.Native.Nat.{ℕ, ◌+◌, ◌/◌, ◌%◌, ◌≤◌}
use native.Mathlib.Nat.{mul-mod_left, div-add-mod'}
use native.Mathlib.Omega.{arith}
use borrow.Author.Tests.{le-leb, lt-leb, leb-true, leb-false}
use lib.Dec.{eqb, leb}
use Rattle.scan.specs.declared.Error.{Error}
use Rattle.scan.proofs.Cases.{by_test, by_option, none_some}
use Rattle.scan.proofs.Decides.{Decides, holds, fails, decided, refuted, passes, rejects, decides_and, decides_by, eqb_decides}
use Rattle.scan.proofs.Finds.{Finds, found, missing}
use Rattle.header.specs.Entries.{value_in}
use Rattle.header.specs.Entry.{Entry}
use Rattle.blocks.specs.Cases.{Readable, LengthKept, KeyError, rule-broken, file_name, bad-length, past_end}
use Rattle.blocks.specs.Counting.{counting_in, size_value}
use Rattle.blocks.specs.Grammar.{Rules, MultipleOf, KeepsRules}
use Rattle.blocks.specs.Judging.{is_whole_or_absent, length_allowed, row_with, role_of, judged}
use Rattle.blocks.specs.Keys.{FileNameKey, HeaderSizeKey}
use Rattle.blocks.specs.Places.{CountsIn}
use Rattle.blocks.specs.Reading.{number_or}
use Rattle.blocks.specs.Values.{Absent, WholeOrAbsent}
use Rattle.blocks.specs.declared.Accepted.{Accepted}
use Rattle.blocks.specs.declared.Role.{Role}
use Rattle.blocks.specs.declared.Row.{Row}
use Rattle.blocks.proofs.Coded.{kind_number, coded, Asking, kind_reads, size-reads}
use Rattle.blocks.proofs.PlaceLaws.{DistinctKeys}
use Rattle.blocks.proofs.Roles.{IsFirst, role_in, role_sound, role_complete}
use Rattle.blocks.proofs.ValueLaws.{Reads, number_sound, number-complete, whole-decides, length-decides, length_whole}

-- ---- The tests

absent_decides : {Has : List ℕ → Type 0} {o : Option (List ℕ)} → Finds Has o → Decides (Absent Has) (is_none o)
absent_decides (found h) = fails (λ n. n _ h)
absent_decides (missing n) = holds n

-- What is there where the test fails.
present : {Has : List ℕ → Type 0} {o : Option (List ℕ)} → Finds Has o → is_none o ≡ false → (v : List ℕ) × Has v
present (found {x = v} h) e = (v, h)
present (missing n) e = absurd (false≢true (sym e))

multiple_decides : (boundary length : ℕ) → Decides (MultipleOf boundary length) (eqb (length % boundary) 0)
multiple_decides boundary length =
    decides_by
    (λ e. (length / boundary, omega (arith, div-add-mod' length boundary)))
    (λ m. ap (λ (k : ℕ). k % boundary) m.1 ∙ mul-mod_left m.0 boundary)
    (eqb_decides (length % boundary) 0)

module _ (r : Rules) (asking : Asking r) {b : Bool} {start : ℕ} (rank : IsFirst r.kind b start) (end header : ℕ) {es : List Entry} (distinct : DistinctKeys es) where
  -- The values that `judged` looks at.
  abbrev size_text : Option (List ℕ)
  size_text = size_value (kind_number r.kind) es

  abbrev counted : List ℕ → Option (List ℕ)
  counted key = value_in key (counting_in (kind_number r.kind) es)

  abbrev Counted : List ℕ → List ℕ → Type 0
  Counted key = CountsIn r.kind es key

  counted_reads : (key : List ℕ) → Reads (Counted key) (counted key)
  counted_reads key = kind_reads distinct r.kind key

  whole_test : Decides (WholeOrAbsent (Counted HeaderSizeKey)) (is_whole_or_absent (counted HeaderSizeKey))
  whole_test = whole-decides (counted_reads HeaderSizeKey)

  name_test : Decides (Absent (Counted FileNameKey)) (is_none (counted FileNameKey))
  name_test = absent_decides (counted_reads FileNameKey).finds

  length_test : Decides (LengthKept r es header) (length_allowed (coded r) es header)
  unfolding length_allowed
  length_test =
      decides_by (λ h. record { multiple = h.0; header_size = h.1 }) (λ h. (h.multiple, h.header_size))
      (decides_and (multiple_decides r.boundary header) (length-decides (counted_reads HeaderSizeKey) header))

  -- ---- What `judged` answers

  -- An accepted block keeps the rules.
  pub record IsAccepted (a : Accepted) : Type 0 where
    pub rules : KeepsRules r start es a.row
    pub starts : a.row.start ≡ start
    pub header_is : a.row.header ≡ header
    pub ends : a.next ≡ start + header + a.row.size
    pub inside : a.next ≤ end
    pub same_rules : a.rules ≡ coded r

  abbrev pub JudgedSays : Outcome Accepted → Type 0
  JudgedSays (Ok a) = IsAccepted a
  JudgedSays (Err e) = KeyError r start end header es e

  -- The row that is read, once role and size are.
  read : (role : Role) (size : ℕ) → role_of (coded r) b es ≡ Some role → number_or 0 0 size_text ≡ Some size
      → is_whole_or_absent (counted HeaderSizeKey) ≡ true → Readable r start es (row_with start header size role)
  read role size e f w = record {
    role = role_sound r asking rank es role e header size;
    size = number_sound (size-reads distinct r.kind) f;
    header_size = decided whole_test w;
  }

  pub judged_says : JudgedSays (judged (coded r) b end start header es)
  unfolding judged
  judged_says =
      by_option (role_of (coded r) b es)
      (λ e. rw e (rule-broken (λ row q. none_some (sym e ∙ role_complete r asking rank es q.role))))
      (λ role e. by_option (number_or 0 0 size_text)
      (λ f. rw (e, f) (rule-broken (λ row q. none_some (sym f ∙ number-complete (size-reads distinct r.kind) q.size))))
      (λ size f. by_test (is_whole_or_absent (counted HeaderSizeKey))
      (λ w. by_test (is_none (counted FileNameKey))
      (λ n. by_test (length_allowed (coded r) es header)
      (λ l. by_test (leb (start + header + size) end)
      (λ u. rw (e, f, w, n, l, u) (accepted role size (read role size e f w) (decided name_test n) (decided length_test l) (leb-true _ _ u)))
      (λ u. rw (e, f, w, n, l, u) (past_end (read role size e f w) (decided name_test n) (decided length_test l) (leb-false _ _ u))))
      (λ l. rw (e, f, w, n, l) (bad-length (read role size e f w) (decided name_test n) (refuted length_test l))))
      (λ n. rw (e, f, w, n) (file_name (read role size e f w) (present (counted_reads FileNameKey).finds n).1)))
      (λ w. rw (e, f, w) (rule-broken (λ row q. refuted whole_test w q.header_size)))))
    where
      accepted : (role : Role) (size : ℕ) → Readable r start es (row_with start header size role) → Absent (Counted FileNameKey)
          → LengthKept r es header → start + header + size ≤ end
          → IsAccepted (record { row = row_with start header size role; next = start + header + size; rules = coded r })
      accepted role size q n l u = record {
        rules = record {
          role = q.role;
          size = q.size;
          no_file_name = n;
          multiple = l.multiple;
          header_size = l.header_size;
        };
        starts = refl;
        header_is = refl;
        ends = refl;
        inside = u;
        same_rules = refl;
      }

  -- ---- And it answers what there is

  -- The steps that a readable header passes.
  module _ {row : Row} (q : Readable r start es row) where
    role_read : role_of (coded r) b es ≡ Some (role_in row)
    role_read = role_complete r asking rank es q.role

    size_read : number_or 0 0 size_text ≡ Some row.size
    size_read = number-complete (size-reads distinct r.kind) q.size

    whole_read : is_whole_or_absent (counted HeaderSizeKey) ≡ true
    whole_read = passes whole_test q.header_size

  pub judged_complete : {row : Row} → KeepsRules r start es row → row.start ≡ start → row.header ≡ header → {next : ℕ}
      → next ≡ start + header + row.size → next ≤ end
      → judged (coded r) b end start header es ≡ Ok (record { row = row; next = next; rules = coded r })
  unfolding judged
  judged_complete {row} k p q {next} n u =
      let read : Readable r start es row = record { role = k.role; size = k.size; header_size = length_whole k.header_size } in
      let kept : LengthKept r es header = record { multiple = rw q at k.multiple; header_size = rw q at k.header_size } in
      let room : leb (start + header + row.size) end ≡ true = le-leb _ _ (rw n at u) in
      rw (role_read read, size_read read, whole_read read, passes name_test k.no_file_name, passes length_test kept, room)
      (λ i. Ok (record {
        row = record {
          start = sym p i;
          header = sym q i;
          size = row.size;
          kind = row.kind;
          sequence = row.sequence;
          instance = row.instance;
          memory = row.memory;
        };
        next = sym n i;
        rules = coded r;
      }))

  pub key_error_complete : {e : Error} → KeyError r start end header es e → judged (coded r) b end start header es ≡ Err e
  unfolding judged
  key_error_complete (rule-broken n) =
      by_option (role_of (coded r) b es) (λ e. rw e)
      (λ role e. by_option (number_or 0 0 size_text) (λ f. rw (e, f))
      (λ size f. by_test (is_whole_or_absent (counted HeaderSizeKey))
      (λ w. absurd (n _ (read role size e f w)))
      (λ w. rw (e, f, w))))
  key_error_complete (file_name {name = name} q f) =
      rw (role_read q, size_read q, whole_read q, rejects name_test (λ n. n name f))
  key_error_complete (bad-length q f l) =
      rw (role_read q, size_read q, whole_read q, passes name_test f, rejects length_test l)
  key_error_complete (past_end q f l u) =
      rw (role_read q, size_read q, whole_read q, passes name_test f, passes length_test l, lt-leb _ _ u)
