-- Two concatenated files of kind 1: the rows of the first, and those of the second with their starts moved.
use Rattle.std.specs.Prelude.{None}
use mathlib.Core.Path.{◌≡◌, refl, sym, ap, subst, ◌∙◌}
use mathlib.Core.List.{List, [], ◌∷◌, ◌++◌, map}
use Prim.Native.Nat.{ℕ, ◌+◌, ◌≤◌}
use native.Mathlib.Omega.{arith}
use lib.ListN.{length, take, length-append, length-map}
use lib.Seq.{take-length, take-append_seam}
use Rattle.scan.specs.Chain.{Chain}
use Rattle.scan.proofs.Cases.{by_order}
use Rattle.scan.proofs.Chains.{chain_end}
use Rattle.blocks.specs.Cases.{Passed}
use Rattle.blocks.specs.Grammar.{Rules, plain_rules, Gap, SpacedBlock, Partition}
use Rattle.blocks.specs.Limits.{block_limit}
use Rattle.blocks.specs.Places.{Kind, kind_1}
use Rattle.blocks.specs.declared.Row.{Row}
use Rattle.blocks.proofs.Coded.{kinds_differ}
use Rattle.blocks.proofs.Prefix.{passed_local, gap_local}
use Rattle.locality.specs.Blocks.{AcceptedFile, general_header, OfKind, Joinable, joined_rows}
use Rattle.locality.specs.Moved.{moved_row}
use Rattle.locality.proofs.BlockUp.{gap_up, spaced_up}
use Rattle.locality.proofs.Chains.{chain_moved, chain_joined}
use Rattle.locality.proofs.KindLaws.{plain_rules_lem, data_kind, rows-general}

pub joined_count : (n : ℕ) (rows others : List Row) → length (joined_rows n rows others) ≡ length rows + length others
joined_count n rows others =
    length-append rows (map (moved_row n) others) ∙ ap (λ (k : ℕ). length rows + k) (length-map others (moved_row n))

-- Whitespace behind whitespace, and before blocks.
gap_joined : {s : List ℕ} {kind : Kind} {from middle to : ℕ} → Gap s kind from middle → Gap s kind middle to → Gap s kind from to
gap_joined {middle = middle} g h = record {
  order = omega (arith, g.order, h.order);
  only_whitespace = λ k l u. by_order middle k (λ le. h.only_whitespace k le u) (λ lt. g.only_whitespace k l lt);
  end_to_end = λ q. g.end_to_end q ∙ h.end_to_end q;
}

chain_widened : {s : List ℕ} (r : Rules) (end : ℕ) {from middle : ℕ} → Gap s r.kind from middle → (rows : List Row)
    → Chain (SpacedBlock s r) (λ at. Gap s r.kind at end) middle rows → Chain (SpacedBlock s r) (λ at. Gap s r.kind at end) from rows
chain_widened r end g [] c = gap_joined g c
chain_widened r end g (x ∷ xs) c = (c.0, record { gap = gap_joined g c.1.gap; block = c.1.block }, c.2)

-- The blocks of a file of kind 1, with the whitespace between them.
plain_blocks : {s : List ℕ} {rows : List Row} → OfKind kind_1 s → Partition s rows
    → Chain (SpacedBlock s (plain_rules kind_1)) (λ at. Gap s kind_1 at (length s)) 0 rows
plain_blocks {s} {rows} k c =
    subst (λ (q : Rules). Chain (SpacedBlock s q) (λ at. Gap s q.kind at (length s)) 0 rows) (plain_rules_lem k c.first_header) c.blocks

module _ (s t : List ℕ) {rows others : List Row} (first_kind : OfKind kind_1 s) (second_kind : OfKind kind_1 t) (a : Partition s rows)
    (b : Partition t others) (few : length rows + length others ≤ block_limit) where
  abbrev r : Rules
  r = plain_rules kind_1

  same-front : take (length s) s ≡ take (length s) (s ++ t)
  same-front = take-length s ∙ sym (take-append_seam s t)

  -- Where the blocks of the first file end, and the whitespace behind them.
  ending : (end : ℕ) × Gap s kind_1 end (length s) × Passed (s ++ t) r rows end
  ending =
      let c = chain_end (SpacedBlock s r) (λ at. Gap s kind_1 at (length s)) 0 rows (plain_blocks first_kind a) in
      let p : Passed s r rows c.0 = record {
        first_header = rw (plain_rules_lem first_kind a.first_header) at a.first_header;
        blocks = c.2;
        not_empty = a.not_empty;
        few = a.few;
        identities = λ k. absurd (kinds_differ k);
      } in
      (c.0, c.1, passed_local (length s) s (s ++ t) same-front c.1.order p)

  -- The blocks of the second, with their starts moved, and the whitespace before and behind them.
  back : Chain (SpacedBlock (s ++ t) r) (λ at. Gap (s ++ t) kind_1 at (length s + length t)) (length s + 0) (map (moved_row (length s)) others)
  back =
      chain_moved (SpacedBlock t r) (SpacedBlock (s ++ t) r) (λ at. Gap t kind_1 at (length t)) (λ at. Gap (s ++ t) kind_1 at (length s + length t))
      (moved_row (length s)) (length s)
      (λ at x next d. spaced_up s t (data_kind refl d.block.rules.role) d) (λ at g. gap_up s t g) 0 others
      (plain_blocks second_kind b)

  pub joined : Partition (s ++ t) (joined_rows (length s) rows others)
  joined =
      let z : length s + 0 ≡ length s = omega arith in
      let n = joined_count (length s) rows others in
      let e = ending in
      let seam : Gap (s ++ t) kind_1 e.0 (length s) = gap_local (length s) s (s ++ t) same-front (omega arith) e.1 in
      record {
        rules = r;
        first_header = e.2.first_header;
        blocks =
            chain_joined (SpacedBlock (s ++ t) r) (λ at. Gap (s ++ t) kind_1 at (length (s ++ t))) e.0 (map (moved_row (length s)) others)
            (chain_widened r (length (s ++ t)) seam (map (moved_row (length s)) others) (rw (length-append s t) (rw z at back))) 0 rows e.2.blocks;
        not_empty = omega (arith, a.not_empty);
        few = omega arith;
        identities = λ k. absurd (kinds_differ k);
        count = tt;
      }

  -- It has no general header.
  pub joined_general : general_header (s ++ t) (joined_rows (length s) rows others) ≡ None
  unfolding joined
  joined_general = rows-general joined refl

pub files_joined : (s t : List ℕ) {rows others : List Row} → Joinable s t rows others → AcceptedFile (s ++ t) (joined_rows (length s) rows others)
files_joined s t j = record {
  small = omega (arith, j.small, length-append s t);
  partition = joined s t j.first_kind j.second_kind j.first.partition j.second.partition j.few;
}
