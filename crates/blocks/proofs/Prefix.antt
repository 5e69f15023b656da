-- The blocks before an offset do not depend on what follows it: they are the same in every file that starts with the same bytes.
use mathlib.Core.Path.{◌≡◌, sym, ap, subst, ◌∙◌}
use mathlib.Core.List.{List, [], ◌∷◌}
use Prim.Native.Nat.{ℕ, ◌+◌, ◌≤◌, ◌<◌}
use native.Mathlib.Omega.{arith}
use lib.ListN.{length, take, length-take}
use lib.Seq.{get_or-take}
use Rattle.scan.specs.Byte.{byte}
use Rattle.scan.specs.Chain.{Chain}
use Rattle.scan.proofs.Chains.{chain_kept, chain_length}
use Rattle.header.proofs.Prefix.{header_local, body_local, parse_local}
use Rattle.header.proofs.Unambiguous.{header_unique}
use Rattle.header.specs.Entry.{Entry}
use Rattle.header.specs.Grammar.{IsHeader}
use Rattle.header.specs.declared.Header.{Header}
use Rattle.header.specs.declared.Statement.{Statement}
use Rattle.blocks.specs.Cases.{Passed}
use Rattle.blocks.specs.Grammar.{Rules, HasHeader, Gap, IsBlock, SpacedBlock, FirstHeader}
use Rattle.blocks.specs.Places.{Kind}
use Rattle.blocks.specs.declared.Row.{Row}
use Rattle.blocks.proofs.BlockPlaces.{block_inside, spaced_inside, spaced_next}
use Rattle.blocks.proofs.FirstLaws.{heads-next}
use Rattle.blocks.proofs.Gaps.{next_unique}

module _ (n : ℕ) (s t : List ℕ) (agree : take n s ≡ take n t) where
  pub has_local : {at : ℕ} {h : Header} {ts : List Statement} {es : List Entry} → at + h.length ≤ n → HasHeader s at h ts es → HasHeader t at h ts es
  has_local l x = record {
    header = header_local n s t agree l x.header;
    parse = parse_local n s t agree l x.header x.parse;
    says = rw (body_local n s t agree l x.header) at x.says;
  }

  pub block_local : {r : Rules} {at next : ℕ} {row : Row} → next ≤ n → IsBlock s r at row next → IsBlock t r at row next
  block_local {at = at} l x =
      let inside : at + x.header.length ≤ n = omega (arith, x.ends, x.length_is) in
      record {
        header = x.header;
        statements = x.statements;
        entries = x.entries;
        stands = has_local inside x.stands;
        brace = x.brace;
        starts = x.starts;
        length_is = x.length_is;
        rules = x.rules;
        ends = x.ends;
        inside = omega (arith, x.inside, length-take n s, length-take n t, ap length agree);
      }

  same_byte : (k : ℕ) → k < n → byte s k ≡ byte t k
  same_byte k l = sym (get_or-take n s k 0 l) ∙ ap (λ (q : List ℕ). byte q k) agree ∙ get_or-take n t k 0 l

  pub gap_local : {kind : Kind} {from to : ℕ} → to ≤ n → Gap s kind from to → Gap t kind from to
  gap_local l g = record {
    order = g.order;
    only_whitespace = λ k a u. rw (same_byte k (omega arith)) at (g.only_whitespace k a u);
    end_to_end = g.end_to_end;
  }

  pub spaced_local : {r : Rules} {at next : ℕ} {row : Row} → next ≤ n → SpacedBlock s r at row next → SpacedBlock t r at row next
  spaced_local l x = record { gap = gap_local (omega (arith, block_inside x.block)) x.gap; block = block_local l x.block }

  -- The first header of the file is that of its first block.
  first_local : {r : Rules} (rows : List Row) (end : ℕ) → end ≤ n → 1 ≤ length rows → Chain (SpacedBlock s r) (λ at. at ≡ end) 0 rows
      → FirstHeader s r → FirstHeader t r
  first_local [] end l some c f = absurd (omega arith)
  first_local {r} (x ∷ xs) end l some c f =
      let h = f.heads in
      let b : IsBlock s r x.start x c.0 = c.1.block in
      let q : h.start ≡ x.start = next_unique s (heads-next h) (spaced_next c.1) in
      let e : h.header ≡ b.header = header_unique (subst (λ (i : ℕ). IsHeader s i h.header) q h.stands.header) b.stands.header in
      let k = chain_length (SpacedBlock s r) (λ k y m d. (spaced_inside d).0) end c.0 xs c.2 in
      let inside : h.start + h.header.length ≤ n = rw e (omega (arith, b.ends, b.length_is)) in
      record {
        entries = f.entries;
        heads = record {
          start = h.start;
          header = h.header;
          statements = h.statements;
          gap = gap_local (omega arith) h.gap;
          stands = has_local inside h.stands;
          brace = h.brace;
        };
        declares = f.declares;
      }

  pub passed_local : {r : Rules} {rows : List Row} {end : ℕ} → end ≤ n → Passed s r rows end → Passed t r rows end
  passed_local {r} {rows} {end} l p = record {
    first_header = first_local rows end l p.not_empty p.blocks p.first_header;
    blocks =
        chain_kept (SpacedBlock s r) (SpacedBlock t r) (λ k x m b. (spaced_inside b).0) end (λ k x m u b. spaced_local (omega arith) b) 0 rows
        p.blocks;
    not_empty = p.not_empty;
    few = p.few;
    identities = p.identities;
  }
