-- "in a cut the blocks and such white together use up every byte".
use mathlib.Core.Path.{◌≡◌, refl}
use mathlib.Core.Bool.{true}
use mathlib.Core.List.{List, [], ◌∷◌, Memᴰ}
use Prim.Native.Nat.{ℕ, ◌+◌, ◌≤◌, ◌<◌}
use native.Mathlib.Omega.{arith}
use lib.ListN.{length}
use Rattle.scan.specs.Byte.{byte}
use Rattle.scan.specs.Chain.{Chain}
use Rattle.scan.proofs.Cases.{by_order}
use Rattle.text.specs.Whitespace.{whitespace}
use Rattle.blocks.specs.Grammar.{Rules, Gap, SpacedBlock, Partition}
use Rattle.blocks.specs.Places.{Kind, kind_1}
use Rattle.blocks.specs.declared.Row.{Row}
use Rattle.blocks.proofs.Coded.{by_kind}

-- A byte of the file is in a block, or it is whitespace in a file of kind 1.
pub data Covered (s : List ℕ) (kind : Kind) (rows : List Row) (k : ℕ) : Type 0 where
  in_block : {row : Row} → Memᴰ row rows → row.start ≤ k → k < row.start + row.header + row.size → Covered s kind rows k
  in-gap : kind ≡ kind_1 → whitespace (byte s k) ≡ true → Covered s kind rows k

module _ (s : List ℕ) (r : Rules) where
  gap_covers : {rows : List Row} {from to k : ℕ} → Gap s r.kind from to → from ≤ k → k < to → Covered s r.kind rows k
  gap_covers {k = k} g l u = by_kind r.kind (λ one. in-gap one (g.only_whitespace k l u)) (λ two. absurd (omega (arith, g.end_to_end two)))

  more : {rows : List Row} {x : Row} {k : ℕ} → Covered s r.kind rows k → Covered s r.kind (x ∷ rows) k
  more (in_block m l u) = in_block (Memᴰ.tail m) l u
  more (in-gap e w) = in-gap e w

  covers : (rows : List Row) (at : ℕ) → Chain (SpacedBlock s r) (λ end. Gap s r.kind end (length s)) at rows
      → (k : ℕ) → at ≤ k → k < length s → Covered s r.kind rows k
  covers [] at g k l u = gap_covers g l u
  covers (x ∷ xs) at c k l u =
      by_order x.start k
      (λ from. by_order c.0 k (λ past. more (covers xs c.0 c.2 k past u))
      (λ lt. in_block (Memᴰ.head refl) from (omega (arith, c.1.block.ends))))
      (λ lt. gap_covers c.1.gap l lt)

pub every_byte : {s : List ℕ} {rows : List Row} (c : Partition s rows) (k : ℕ) → k < length s → Covered s c.rules.kind rows k
every_byte {s} {rows} c k u = covers s c.rules rows 0 c.blocks k (omega arith) u
