-- A header and a block, in the bytes of the block alone: the same, with their offsets counted from the block's start.
use Rattle.std.specs.Prelude.{Ok}
use mathlib.Core.Path.{◌≡◌, sym, ap, ◌∙◌}
use mathlib.Core.List.{List, map}
use Prim.Native.Nat.{ℕ, ◌+◌, ◌≤◌}
use native.Mathlib.Omega.{arith}
use lib.ListN.{length, take, drop}
use lib.Seq.{take-take}
use Rattle.scan.proofs.Cases.{by_outcome, ok-failed}
use Rattle.header.specs.Entries.{entries}
use Rattle.header.specs.Entry.{Entry, body_of}
use Rattle.header.specs.Frame.{header_at}
use Rattle.header.specs.Statements.{statements_of}
use Rattle.header.specs.declared.Header.{Header}
use Rattle.header.specs.declared.Statement.{Statement}
use Rattle.header.proofs.FrameLaws.{header_sound, header_complete, header_inside}
use Rattle.header.proofs.SayLaws.{entries_say}
use Rattle.header.proofs.StatementLaws.{statements_sound, statements_complete}
use Rattle.blocks.specs.Grammar.{HasHeader}
use Rattle.blocks.proofs.Said.{said_once}
use Rattle.blocks.proofs.Prefix.{has_local}
use Rattle.locality.specs.Blocks.{HeaderAlone}
use Rattle.locality.specs.Moved.{moved_outcome, moved_header, moved_statement}
use Rattle.locality.proofs.Offsets.{header_from, statements_from_lem, entries_from_lem}

module _ {s : List ℕ} {a : ℕ} {h : Header} {ts : List Statement} {es : List Entry} (x : HasHeader s a h ts es) where
  inside : a ≤ length s
  inside = omega (arith, header_inside x.header)

  -- In the rest of the file from `a` on,
  rest_alone : HeaderAlone (drop a s) a h ts es
  rest_alone =
      let headed = sym (header_complete x.header) ∙ header_from s a inside in
      by_outcome (header_at (drop a s) 0)
      (λ g e.
      let p : Ok h ≡ Ok (moved_header a g) = headed ∙ ap (moved_outcome a (moved_header a)) e in
      let q : h ≡ moved_header a g = cc in
      let parsed = sym (statements_complete s a h x.parse) ∙ ap (statements_of s a) q ∙ statements_from_lem s a inside g in
      by_outcome (statements_of (drop a s) 0 g)
      (λ us f.
      let u : Ok ts ≡ Ok (map (moved_statement a) us) = parsed ∙ ap (moved_outcome a (map (moved_statement a))) f in
      let v : ts ≡ map (moved_statement a) us = cc in
      record {
        header = g;
        statements = us;
        entries = entries (body_of (drop a s) g) us;
        stands = record {
          header = header_sound e;
          parse = statements_sound (drop a s) 0 g f;
          says = entries_say (body_of (drop a s) g) us;
        };
        header_is = q;
        statements_are = v;
        entries_are = said_once x ∙ (λ i. entries (body_of s (q i)) (v i)) ∙ entries_from_lem s a inside g us;
      })
      (λ z f. absurd (ok-failed (parsed ∙ ap (moved_outcome a (map (moved_statement a))) f))))
      (λ z e. absurd (ok-failed (headed ∙ ap (moved_outcome a (moved_header a)) e)))

  -- and in as many bytes of it as hold the header.
  pub header_alone : (m : ℕ) → h.length ≤ m → HeaderAlone (take m (drop a s)) a h ts es
  header_alone m l =
      let f = rest_alone in
      let fits : 0 + f.header.length ≤ m = omega (arith, ap (λ (g : Header). g.length) f.header_is) in
      record {
        header = f.header;
        statements = f.statements;
        entries = f.entries;
        stands = has_local m (drop a s) (take m (drop a s)) (sym (take-take m m (drop a s) (omega arith))) fits f.stands;
        header_is = f.header_is;
        statements_are = f.statements_are;
        entries_are = f.entries_are;
      }
