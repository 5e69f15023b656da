-- Where a block stands, and where it is judged.
use mathlib.Core.Path.{◌≡◌, refl, sym, ap, ◌∙◌}
use mathlib.Core.Bool.{Bool, true, false}
use mathlib.Core.Logic.{◌≢◌}
use mathlib.Core.List.{List}
use Prim.Native.Nat.{ℕ, ◌≤◌, ◌<◌}
use native.Mathlib.Omega.{arith}
use lib.ListN.{length}
use Rattle.header.specs.Entry.{Entry}
use Rattle.header.specs.declared.Header.{Header}
use Rattle.header.specs.declared.Statement.{Statement}
use Rattle.header.proofs.FrameLaws.{header_inside}
use Rattle.blocks.specs.Cases.{NextAt, FirstAt, at-brace, at_zero}
use Rattle.blocks.specs.Grammar.{Rules, Declares, HasHeader, StartsAtBrace, Gap, IsBlock, SpacedBlock, HeadsFile}
use Rattle.blocks.specs.Places.{kind_1, kind_2}
use Rattle.blocks.specs.declared.Row.{Row}
use Rattle.blocks.proofs.BlockRules.{RulesAre}
use Rattle.blocks.proofs.Coded.{kinds_differ}
use Rattle.blocks.proofs.Declarations.{edf_declares, plain_declares}
use Rattle.blocks.proofs.FirstLaws.{heads_zero, heads_brace, heads_proves}
use Rattle.blocks.proofs.Gaps.{no_gap, brace_visible, start_bare}
use Rattle.blocks.proofs.Roles.{IsFirst, is-first, is_plain, is_later, Named, role_named}

-- ---- A block

-- It goes on, inside the file,
pub block_inside : {s : List ℕ} {r : Rules} {start next : ℕ} {row : Row} → IsBlock s r start row next → (start < next) × (next ≤ length s)
block_inside x = (omega (arith, header_inside x.stands.header, x.ends, x.length_is), x.inside)

pub spaced_inside : {s : List ℕ} {r : Rules} {at next : ℕ} {row : Row} → SpacedBlock s r at row next → (at < next) × (next ≤ length s)
spaced_inside x = (omega (arith, x.gap.order, block_inside x.block), (block_inside x.block).1)

-- its row has an instance exactly if it has an identity,
pub block_named : {s : List ℕ} {r : Rules} {start next : ℕ} {row : Row} → IsBlock s r start row next → Named r row
block_named x = role_named x.rules.role

-- and it stands where a block is looked for.
pub spaced_next : {s : List ℕ} {r : Rules} {at next : ℕ} {row : Row} → SpacedBlock s r at row next → NextAt s r.kind at row.start
spaced_next x = record { gap = x.gap; visible = λ q. rw (x.block.brace q) at (brace_visible x.block.stands.header.opening) }

-- The first block has the first header.
pub heads_file : {s : List ℕ} {r : Rules} {next : ℕ} {row : Row} (x : SpacedBlock s r 0 row next) → HeadsFile s r.kind x.block.entries
heads_file {row = row} x = record {
  start = row.start;
  header = x.block.header;
  statements = x.block.statements;
  gap = x.gap;
  stands = x.block.stands;
  brace = x.block.brace;
}

-- ---- Where it is judged

-- The first of the file, or one that follows others, which end at `end`.
pub data Rank (s : List ℕ) (given : Rules) : Bool → ℕ → ℕ → Type 0 where
  first : {at : ℕ} → FirstAt s at → Rank s given true 0 at
  later : {end at : ℕ} → end ≢ 0 → NextAt s given.kind end at → Rank s given false end at

-- What is known of the place once the header there, and with it the kind, is.
pub record Place (s : List ℕ) (r : Rules) (b : Bool) (end at : ℕ) (h : Header) : Type 0 where
  pub gap : Gap s r.kind end at
  pub brace : StartsAtBrace r.kind at h
  pub rank : IsFirst r.kind b at

not_zero : {end at : ℕ} → end ≢ 0 → end ≤ at → at ≢ 0
not_zero n l z = n (omega arith)

module _ {s : List ℕ} {h : Header} {ts : List Statement} {es : List Entry} where
  -- Of the first header, judged from its brace, which is of kind 1.
  place_plain : {at : ℕ} → NextAt s kind_1 0 at → HasHeader s at h ts es → (r : Rules) → r.kind ≡ kind_1 → Place s r true 0 at h
  place_plain n k r one = record {
    gap = rw one n.gap;
    brace = λ q. start_bare k.header.opening (n.visible refl);
    rank = is_plain one;
  }

  place_first : {at : ℕ} → FirstAt s at → HasHeader s at h ts es → (r : Rules) → Declares es r → Place s r true 0 at h
  place_first (at-brace n p) k r d =
      place_plain n k r (ap (λ (x : Rules). x.kind) (plain_declares d (λ edf. p ((heads_proves (heads_brace n k) n).1 edf))))
  place_first (at_zero n p) k r d =
      let two : r.kind ≡ kind_2 = edf_declares d ((heads_proves (heads_zero k) n).0 p) in
      record { gap = no_gap 0; brace = λ q. absurd (kinds_differ (sym q ∙ two)); rank = is-first }

  pub place_of_lem : (given : Rules) {b : Bool} {end at : ℕ} → Rank s given b end at → HasHeader s at h ts es → (r : Rules) → RulesAre given b es r
      → Place s r b end at h
  place_of_lem given (first f) k r d = place_first f k r d
  place_of_lem given (later n x) k r e = record {
    gap = rw e x.gap;
    brace = λ q. start_bare k.header.opening (x.visible (ap (λ (y : Rules). y.kind) (sym e) ∙ q));
    rank = is_later (not_zero n x.gap.order);
  }
