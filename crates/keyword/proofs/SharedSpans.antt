-- Where the values of a block's keywords stand: those of its own header behind its start, those of the general header before it.
use Rattle.std.specs.Prelude.{Some, Ok, slice_get}
use Rattle.std.proofs.lemmas.Option.{same_Some}
use mathlib.Core.Path.{◌≡◌, refl, sym, ap, ◌∙◌}
use mathlib.Core.Bool.{◌&&◌}
use mathlib.Core.List.{List, [], ◌∷◌, Memᴰ}
use Prim.Native.Nat.{ℕ, zero, suc, ◌+◌, ◌≤◌, ◌<◌}
use native.Mathlib.Omega.{arith}
use lib.Dec.{eqb}
use lib.ListN.{length}
use Rattle.scan.specs.Byte.{same}
use Rattle.scan.specs.Chain.{Chain}
use Rattle.scan.proofs.Cases.{by_test, none_some, both_true}
use Rattle.scan.proofs.Decides.{decided, eqb_decides}
use Rattle.header.specs.Entries.{span, entries, lookup}
use Rattle.header.specs.Entry.{Entry, body_of, key}
use Rattle.header.specs.Lookup.{entry_of}
use Rattle.header.specs.declared.Header.{Header}
use Rattle.header.specs.declared.Statement.{Statement}
use Rattle.header.proofs.FrameLaws.{header_inside}
use Rattle.header.proofs.Spans.{statement_in_header}
use Rattle.blocks.specs.Grammar.{Rules, HasHeader, Gap, IsBlock, SpacedBlock, Partition}
use Rattle.blocks.specs.declared.Row.{Row}
use Rattle.blocks.proofs.BlockPlaces.{spaced_inside}
use Rattle.blocks.proofs.Roles.{general_start}
use Rattle.blocks.proofs.Said.{said_once}
use Rattle.locality.proofs.Chains.{chain_behind}
use Rattle.locality.proofs.Rows.{member_at}
use Rattle.keyword.specs.Keyword.{entries_at, general_entries}
use Rattle.keyword.proofs.Headers.{entries_read}

-- ---- In a header

-- What is looked up is said by a statement.
looked_up : (s k : List ℕ) (ts : List Statement) {e : Entry} → lookup k (entries s ts) ≡ Some e → (t : Statement) × Memᴰ t ts × (e.span ≡ span s t)
unfolding lookup entries
looked_up s k [] q = absurd (none_some q)
looked_up s k (t ∷ ts) {e} q =
    by_test (same (key s t) k)
    (λ u. (t, Memᴰ.head refl, ap (λ (x : Entry). x.span) (sym (same_Some (entry_of s t) e (rw u at q)))))
    (λ u. let r = looked_up s k ts (rw u at q) in (r.0, Memᴰ.tail r.1, r.2))

-- Its value stands inside the header.
span_inside : {s : List ℕ} {at : ℕ} {h : Header} {ts : List Statement} {es : List Entry} → HasHeader s at h ts es → (k : List ℕ) {e : Entry}
    → lookup k es ≡ Some e → e.span.offset < at + h.length
span_inside {s} {h = h} {ts = ts} x k q =
    let r = looked_up (body_of s h) k ts (rw (said_once x) at q) in
    let i = statement_in_header x.parse r.1 in
    rw r.2 (omega (arith, i.span_before, i.before, header_inside x.header))

-- ---- The general header

-- It stands before every data block.
pub general_before : {s : List ℕ} {rows : List Row} → Partition s rows → (k : ℕ) {row : Row} → slice_get rows k ≡ Some row → {g : List Entry}
    → general_entries s rows row ≡ Ok g → (key : List ℕ) {e : Entry} → lookup key g ≡ Some e → e.span.offset < row.start
unfolding general_entries lookup
general_before {s} {rows} c k {row} at {g} q key {e} l = go rows k c.blocks at q
  where
    -- The first block ends where the next ones start, or before.
    inside : {r : Rules} {x : Row} {at next : ℕ} → IsBlock s r at x next → x.kind ≡ 0 → entries_at s 0 ≡ Ok g → e.span.offset < next
    inside {at = at} b general w =
        let p : Ok g ≡ Ok b.entries = sym w ∙ ap (entries_at s) (sym (general_start b.rules.role general)) ∙ entries_read b.stands in
        let z : g ≡ b.entries = cc in
        omega (arith, span_inside b.stands key (rw z at l), b.length_is, b.ends)

    behind : (x : Row) (xs : List Row) (k : ℕ) {from : ℕ} → row.kind ≡ 1 → x.kind ≡ 0 → slice_get (x ∷ xs) k ≡ Some row
        → Chain (SpacedBlock s c.rules) (λ at. Gap s c.rules.kind at (length s)) from xs → from ≤ row.start
    behind x xs zero one general a b =
        absurd (omega (arith, ap (λ (y : Row). y.kind) (same_Some x row a)))
    behind x xs (suc k) {from} one general a b =
        let r = chain_behind (SpacedBlock s c.rules) (λ at. Gap s c.rules.kind at (length s)) (λ i y m d. (spaced_inside d).0) from xs b (member_at xs k a) in
        omega (arith, r.2, r.3.gap.order)

    go : (xs : List Row) (k : ℕ) → Chain (SpacedBlock s c.rules) (λ at. Gap s c.rules.kind at (length s)) 0 xs → slice_get xs k ≡ Some row
        → general_entries s xs row ≡ Ok g → e.span.offset < row.start
    go [] k b a w = absurd (none_some a)
    go (x ∷ xs) k b a w =
        by_test (eqb row.kind 1 && eqb x.kind 0)
        (λ u.
        let kinds = both_true (eqb row.kind 1) (eqb x.kind 0) u in
        let general = decided (eqb_decides x.kind 0) kinds.1 in
        let m = behind x xs k (decided (eqb_decides row.kind 1) kinds.0) general a b.2 in
        omega (arith, inside b.1.block general (rw u at w), m))
        (λ u.
        let p : Ok [] ≡ Ok g = rw u at w in
        let z : [] ≡ g = cc in
        absurd (none_some (rw (sym z) at l)))
