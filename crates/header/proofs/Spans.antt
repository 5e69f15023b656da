-- Where a header's statements lie: inside the header, and their values between `=` and `;`.
use mathlib.Core.Path.{◌≡◌}
use mathlib.Core.List.Memᴰ
use mathlib.Core.List.{List, [], ◌∷◌, Memᴰ}
use mathlib.Core.Logic.{⊎_elim}
use Prim.Native.Nat.{ℕ, suc, ◌+◌, ◌-◌, ◌≤◌, ◌<◌}
use native.Mathlib.Omega.{arith}
use lib.ListN.{length, length-take}
use lib.Seq.{length-slice}
use Rattle.text.proofs.ValueSpans.{value_fits}
use Rattle.header.specs.Entries.{span}
use Rattle.header.specs.Entry.{body_of, raw_value}
use Rattle.header.specs.Grammar.{IsStatement, Parse}
use Rattle.header.specs.declared.Header.{Header}
use Rattle.header.specs.declared.Statement.{Statement}
use Rattle.header.proofs.StatementLaws.{EndToEnd, statement_inside}

module _ (s : List ℕ) where
  -- Of statements end to end from an offset on, each lies after it.
  pub statement_member : {at : ℕ} {t : Statement} (ts : List Statement) → EndToEnd s at ts → Memᴰ t ts
      → (at ≤ t.first) × IsStatement s t × (t.end < length s)
  statement_member [] c m = absurd (Memᴰ.not-nil m)
  statement_member {at} {t} (u ∷ us) c m =
      ⊎_elim
      (λ e. rw e (omega (arith, c.1.starts), c.1.is, (statement_inside s c.1).1))
      (λ n. let r = statement_member {at = c.0} us c.2 n in
      (omega (arith, r.0, statement_inside s c.1, c.1.ends), r.1, r.2))
      (Memᴰ.cases_cons m)

-- A statement lies between the braces, and its value between its `=` and its `;`.
pub record InHeader (s : List ℕ) (h : Header) (t : Statement) : Type 0 where
  pub after : h.left < t.first
  pub key : t.first ≤ t.equals
  pub value : t.equals < t.end
  pub before : t.end < h.right
  pub span_after : t.equals < (span (body_of s h) t).offset
  pub span_before : (span (body_of s h) t).offset + (span (body_of s h) t).length ≤ t.end

pub statement_in_header : {s : List ℕ} {h : Header} {ts : List Statement} {t : Statement}
    → Parse s h ts → Memᴰ t ts → InHeader s h t
unfolding span
statement_in_header {s} {h} {ts} {t} p m =
    let r = statement_member (body_of s h) ts p.shape m in
    let raw : length (raw_value (body_of s h) t) ≡ t.end - suc t.equals =
    length-slice (suc t.equals) t.end (body_of s h) (omega (arith, r.2)) in
    record {
      after = r.0;
      key = r.1.key_first;
      value = r.1.value_after;
      before = omega (arith, r.2, length-take h.right s);
      span_after = omega arith;
      span_before = omega (arith, raw, value_fits (raw_value (body_of s h) t), r.1.value_after);
    }
