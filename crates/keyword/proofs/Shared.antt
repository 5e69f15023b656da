-- The view of a block that two files share depends on its row, on its bytes and on those of the general header alone.
use Rattle.std.specs.Prelude.{Option, None, Some, Ok, slice_get}
use Rattle.scan.specs.Outcome.{Outcome, ◌>>=◌}
use mathlib.Core.Path.{◌≡◌, refl, sym, ap, subst, ◌∙◌}
use mathlib.Core.Bool.{cond}
use mathlib.Core.List.{List, [], ◌∷◌, map}
use Prim.Native.Nat.{ℕ, ◌+◌, ◌≤◌}
use native.Mathlib.Omega.{arith}
use borrow.Author.Tests.{eqb-true}
use lib.Dec.{eqb}
use lib.ListN.{length, take}
use lib.Seq.{take-take}
use Rattle.scan.specs.Chain.{Chain}
use Rattle.scan.proofs.Cases.{by_test, by_outcome}
use Rattle.header.specs.Entry.{Entry}
use Rattle.blocks.specs.Grammar.{Rules, HasHeader, Gap, IsBlock, SpacedBlock, Partition}
use Rattle.blocks.specs.declared.Row.{Row}
use Rattle.blocks.proofs.Answers.{file_accepted}
use Rattle.blocks.proofs.Prefix.{has_local}
use Rattle.blocks.proofs.Roles.{general_start}
use Rattle.blocks.proofs.Unambiguous.{block_of_lem}
use Rattle.locality.specs.Blocks.{AcceptedFile, block_bytes, general_header}
use Rattle.locality.specs.Moved.{moved_entry, moved_row, map_outcome}
use Rattle.locality.proofs.BlockUp.{front}
use Rattle.locality.proofs.Rows.{member_at}
use Rattle.keyword.specs.Keyword.{View, entries_at, general_entries, view_of}
use Rattle.keyword.specs.Shared.{SharedBlock}
use Rattle.keyword.proofs.Headers.{entries_read}

-- ---- The block's own header

-- It says what it says in the block's bytes alone, with the spans moved by the block's start.
pub record OwnHeader (s : List ℕ) (row : Row) : Type 0 where
  pub entries : List Entry
  pub alone : entries_at (block_bytes s row) 0 ≡ Ok entries
  pub here : entries_at s row.start ≡ Ok (map (moved_entry row.start) entries)

own_header : {s : List ℕ} {rows : List Row} → Partition s rows → (k : ℕ) {row : Row} → slice_get rows k ≡ Some row → OwnHeader s row
own_header {s} {rows} c k {row} e =
    let b = (block_of_lem c (member_at rows k e)).2 in
    record {
      entries = (front b).entries;
      alone = entries_read (front b).stands;
      here = ap (entries_at s) b.starts ∙ entries_read b.stands ∙ ap Ok (front b).entries_are;
    }

moved_twice : (n a : ℕ) (es : List Entry) → map (moved_entry (n + a)) es ≡ map (moved_entry n) (map (moved_entry a) es)
moved_twice n a [] = refl
moved_twice n a (e ∷ es) =
    let z : n + a + e.span.offset ≡ n + (a + e.span.offset) = omega arith in
    λ i. record { key = e.key; value = e.value; span = record { offset = z i; length = e.span.length } } ∷ moved_twice n a es i

-- ---- The general header

-- By the bytes of the general header, if there is one.
abbrev pub general_by : ℕ → Option (List ℕ) → Outcome (List Entry)
general_by kind None = Ok []
general_by kind (Some bytes) = cond (eqb kind 1) (entries_at bytes 0) (Ok [])

first_said : {s : List ℕ} {r : Rules} {at next : ℕ} {row : Row} → IsBlock s r at row next → row.kind ≡ 0
    → entries_at s 0 ≡ entries_at (take row.header s) 0
first_said {s} {row = row} b z =
    let k = subst (λ (i : ℕ). HasHeader s i b.header b.statements b.entries) (general_start b.rules.role z) b.stands in
    entries_read k
    ∙ sym (entries_read (has_local row.header s (take row.header s) (sym (take-take row.header row.header s (omega arith)))
    (omega (arith, b.length_is)) k))

pub general_by_lem : {s : List ℕ} {rows : List Row} → Partition s rows → (row : Row) → general_entries s rows row ≡ general_by row.kind (general_header s rows)
unfolding general_entries
general_by_lem {s} {rows} c row = go rows c.blocks c.not_empty
  where
    go : (xs : List Row) → Chain (SpacedBlock s c.rules) (λ at. Gap s c.rules.kind at (length s)) 0 xs → 1 ≤ length xs
        → general_entries s xs row ≡ general_by row.kind (general_header s xs)
    go [] b l = absurd (omega arith)
    go (x ∷ xs) b l =
        by_test (eqb x.kind 0)
        (λ t. by_test (eqb row.kind 1) (λ u. rw (t, u, first_said b.1.block (eqb-true x.kind 0 t))) (λ u. rw (t, u)))
        (λ t. by_test (eqb row.kind 1) (λ u. rw (t, u)) (λ u. rw (t, u)))

-- ---- The view

-- The view of the block where it starts n bytes later: the general header stays.
abbrev pub moved_view : ℕ → View → View
moved_view n v = record { row = moved_row n v.row; own = map (moved_entry n) v.own; general = v.general }

-- A block of an accepted file, by what its own header says alone.
module _ {s : List ℕ} {rows : List Row} (f : AcceptedFile s rows) (k : ℕ) {row : Row} (at : slice_get rows k ≡ Some row) where
  pub own : OwnHeader s row
  own = own_header f.partition k at

  abbrev pub view_with : List Entry → View
  view_with general = record { row = row; own = map (moved_entry row.start) own.entries; general = general }

  pub view_is : view_of s k ≡ (general_entries s rows row >>= λ g. Ok (view_with g))
  unfolding view_of
  view_is = rw ((file_accepted s f.small).1 f.partition, at, own.here)

module _ (n : ℕ) {s t : List ℕ} {k j : ℕ} {row : Row} (b : SharedBlock s t k j row (moved_row n row)) where
  abbrev here : OwnHeader s row
  here = own b.file k b.at

  abbrev there : OwnHeader t (moved_row n row)
  there = own b.other_file j b.other_at

  own_same : there.entries ≡ here.entries
  own_same =
      let e : Ok there.entries ≡ Ok here.entries = sym there.alone ∙ ap (λ (l : List ℕ). entries_at l 0) (sym b.bytes) ∙ here.alone in
      cc

  general_same : general_entries t b.others (moved_row n row) ≡ general_entries s b.rows row
  general_same =
      general_by_lem b.other_file.partition (moved_row n row) ∙ ap (general_by row.kind) (sym b.general)
      ∙ sym (general_by_lem b.file.partition row)

  pub view_moved : view_of t j ≡ map_outcome (moved_view n) (view_of s k)
  view_moved =
      let e : map (moved_entry (n + row.start)) there.entries ≡ map (moved_entry n) (map (moved_entry row.start) here.entries) =
      ap (map (moved_entry (n + row.start))) own_same ∙ moved_twice n row.start here.entries in
      rw (view_is b.other_file j b.other_at, view_is b.file k b.at, general_same, e)
      (by_outcome (general_entries s b.rows row) (λ g f. rw f) (λ x f. rw f))
