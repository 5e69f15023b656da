-- A data block that stands in a file stands behind another file too, with its start moved; and, in a file without a general header, in its
-- own bytes alone.
use Rattle.std.specs.Prelude.{None}
use mathlib.Core.Path.{◌≡◌, refl, sym, ap, subst, ◌∙◌}
use mathlib.Core.Logic.{inl, inr, ⊎_elim}
use mathlib.Core.List.Memᴰ
use mathlib.Core.List.{List, [], ◌∷◌, ◌++◌, map}
use Prim.Native.Nat.{ℕ, ◌+◌, ◌-◌}
use native.Mathlib.Omega.{arith}
use lib.ListN.{length, drop, length-append, length-drop}
use lib.Seq.{length-take-le}
use Rattle.header.specs.Entry.{Entry}
use Rattle.header.specs.declared.Header.{Header}
use Rattle.blocks.specs.Grammar.{Rules, Declares, StartsAtBrace, Gap, IsBlock, SpacedBlock, Partition}
use Rattle.blocks.specs.Places.{Kind}
use Rattle.blocks.specs.declared.Row.{Row}
use Rattle.blocks.proofs.Gaps.{no_gap}
use Rattle.locality.specs.Blocks.{block_bytes, HeaderAlone}
use Rattle.locality.specs.Moved.{moved_header, moved_statement, moved_entry, starting_at, moved_row}
use Rattle.locality.proofs.Alike.{Alike, alike_sym, moved_alike, rules_alike, declares_alike}
use Rattle.locality.proofs.Alone.{header_alone}
use Rattle.locality.proofs.HeaderUp.{has_up}
use Rattle.locality.proofs.Searches.{byte_shift_at}

pub block_up : (p s : List ℕ) {r : Rules} {at next : ℕ} {row : Row} → row.kind ≡ 1 → IsBlock s r at row next
    → IsBlock (p ++ s) r (length p + at) (moved_row (length p) row) (length p + next)
block_up p s {at = at} {row = row} kind x = record {
  header = moved_header (length p) x.header;
  statements = map (moved_statement (length p)) x.statements;
  entries = map (moved_entry (length p)) x.entries;
  stands = has_up p s x.stands;
  brace = λ q. ap (λ (k : ℕ). length p + k) (x.brace q);
  starts = ap (λ (k : ℕ). length p + k) x.starts;
  length_is = x.length_is;
  rules =
      rules_alike (moved_alike (length p) x.entries) kind (⊎_elim (λ z. inl z) (λ n. inr (λ q. n (omega arith)))) (length p + row.start)
      x.rules;
  ends = omega (arith, x.ends);
  inside = omega (arith, x.inside, length-append p s);
}

pub gap_up : (p s : List ℕ) {kind : Kind} {from to : ℕ} → Gap s kind from to → Gap (p ++ s) kind (length p + from) (length p + to)
gap_up p s {from = from} g = record {
  order = omega (arith, g.order);
  only_whitespace = λ k l u.
      rw (byte_shift_at p s k (k - length p) (omega arith)) (g.only_whitespace (k - length p) (omega arith) (omega arith));
  end_to_end = λ q. ap (λ (k : ℕ). length p + k) (g.end_to_end q);
}

pub spaced_up : (p s : List ℕ) {r : Rules} {at next : ℕ} {row : Row} → row.kind ≡ 1 → SpacedBlock s r at row next
    → SpacedBlock (p ++ s) r (length p + at) (moved_row (length p) row) (length p + next)
spaced_up p s kind x = record { gap = gap_up p s x.gap; block = block_up p s kind x.block }

-- ---- In its own bytes

module _ {s : List ℕ} {r : Rules} {at next : ℕ} {row : Row} (x : IsBlock s r at row next) where
  -- Its header,
  pub front : HeaderAlone (block_bytes s row) row.start x.header x.statements x.entries
  front =
      header_alone (rw (sym x.starts) at x.stands) (row.header + row.size) (omega (arith, x.length_is))

  pub bytes_length : length (block_bytes s row) ≡ row.header + row.size
  bytes_length =
      length-take-le (row.header + row.size) (drop row.start s)
      (omega (arith, length-drop row.start s, x.starts, x.ends, x.inside))

  alike : Alike x.entries front.entries
  alike =
      subst (λ (es : List Entry). Alike es front.entries) (sym front.entries_are)
      (alike_sym (moved_alike row.start front.entries))

  -- and the whole block, in a file without a general header,
  module _ (kind : row.kind ≡ 1) (no_general : r.general ≡ None) where
    brace_alone : StartsAtBrace r.kind 0 front.header
    brace_alone q =
        let e : row.start + front.header.left ≡ row.start = sym (ap (λ (h : Header). h.left) front.header_is) ∙ x.brace q ∙ sym x.starts in
        omega arith

    block_alone : IsBlock (block_bytes s row) r 0 (starting_at 0 row) (row.header + row.size)
    block_alone = record {
      header = front.header;
      statements = front.statements;
      entries = front.entries;
      stands = front.stands;
      brace = brace_alone;
      starts = refl;
      length_is = x.length_is ∙ ap (λ (h : Header). h.length) front.header_is;
      rules = rules_alike alike kind (λ z. inl no_general) 0 x.rules;
      ends = omega arith;
      inside = omega (arith, bytes_length);
    }

    -- which they are, if its header as a first header would give the file's rules.
    pub partition_alone : Declares x.entries r → Partition (block_bytes s row) (starting_at 0 row ∷ [])
    partition_alone d = record {
      rules = r;
      first_header = record {
        entries = front.entries;
        heads = record {
          start = 0;
          header = front.header;
          statements = front.statements;
          gap = no_gap 0;
          stands = front.stands;
          brace = brace_alone;
        };
        declares = declares_alike alike no_general d;
      };
      blocks = (row.header + row.size, record { gap = no_gap 0; block = block_alone }, rw bytes_length (no_gap (row.header + row.size)));
      not_empty = omega arith;
      few = omega arith;
      identities = λ k. ((λ y m. absurd (Memᴰ.not-nil m)), tt);
      count = rw no_general tt;
    }
