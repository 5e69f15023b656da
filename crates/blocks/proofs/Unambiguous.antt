-- A file has one partition at most; each header of a partition has a parse, and each row lies inside the file.
use Rattle.std.specs.Prelude.{Ok}
use mathlib.Core.Path.{◌≡◌, refl, sym, ap, subst, ◌∙◌}
use mathlib.Core.Logic.{⊎_elim}
use mathlib.Core.List.Memᴰ
use mathlib.Core.List.{List, [], ◌∷◌, map, Memᴰ}
use Prim.Native.Nat.{ℕ, ◌+◌, ◌≤◌}
use native.Mathlib.Omega.{arith}
use lib.ListN.{length}
use Rattle.scan.proofs.Chains.{chain_member}
use Rattle.header.specs.Grammar.{IsHeader}
use Rattle.blocks.specs.Grammar.{Gap, IsBlock, SpacedBlock, Partition, Block, Cut, BlockHeader, block_of}
use Rattle.blocks.specs.declared.Row.{Row}
use Rattle.blocks.proofs.Complete.{opened_complete}
use Rattle.blocks.proofs.Roles.{general_start}

module _ {s : List ℕ} where
  -- ---- One partition

  pub partition_unique : {rows others : List Row} → Partition s rows → Partition s others → rows ≡ others
  partition_unique {rows} {others} a b = let e : Ok rows ≡ Ok others = sym (opened_complete s a) ∙ opened_complete s b in cc

  pub cut_unique : {blocks others : List Block} → Cut s blocks → Cut s others → blocks ≡ others
  cut_unique a b = a.are ∙ ap (map block_of) (partition_unique a.partition b.partition) ∙ sym b.are

  -- ---- Its blocks

  module _ {rows : List Row} (c : Partition s rows) {row : Row} (m : Memᴰ row rows) where
    pub block_of_lem : (at : ℕ) × (next : ℕ) × IsBlock s c.rules at row next
    block_of_lem =
        let x = chain_member (SpacedBlock s c.rules) (λ at. Gap s c.rules.kind at (length s)) 0 rows c.blocks m in
        (row.start, x.1, x.2.block)

    pub general_row : row.kind ≡ 0 → row.start ≡ 0
    general_row z = let b = block_of_lem.2 in b.starts ∙ general_start b.rules.role z

    pub row_header : BlockHeader s (block_of row)
    row_header =
        let b = block_of_lem.2 in
        record {
          header = b.header;
          statements = b.statements;
          stands = subst (λ (k : ℕ). IsHeader s k b.header) (sym b.starts) b.stands.header;
          length_is = b.length_is;
          parse = b.stands.parse;
        }

  -- Each block of a cut has a header with a parse.
  pub cut_header : {blocks : List Block} → Cut s blocks → {b : Block} → Memᴰ b blocks → BlockHeader s b
  cut_header c {b} m = go c.rows (λ row k. row_header c.partition k) (rw c.are at m)
    where
      go : (rows : List Row) → ((row : Row) → Memᴰ row rows → BlockHeader s (block_of row)) → Memᴰ b (map block_of rows) → BlockHeader s b
      go [] all k = absurd (Memᴰ.not-nil k)
      go (row ∷ rows) all k =
          ⊎_elim (λ e. subst (BlockHeader s) (sym e) (all row (Memᴰ.head refl)))
          (λ t. go rows (λ x l. all x (Memᴰ.tail l)) t) (Memᴰ.cases_cons k)

  module _ {rows : List Row} (c : Partition s rows) {row : Row} (m : Memᴰ row rows) where
    pub row_inside : row.start + row.header + row.size ≤ length s
    row_inside = let b = (block_of_lem c m).2 in omega (arith, b.starts, b.ends, b.inside)
