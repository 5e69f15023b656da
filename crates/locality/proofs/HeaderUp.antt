-- A header that stands in a file stands behind another file too, with its offsets moved, and says the same.
use mathlib.Core.Path.{◌≡◌, ap, sym, subst, ◌∙◌}
use mathlib.Core.List.{List, ◌++◌, map}
use Prim.Native.Nat.{ℕ, ◌+◌}
use lib.ListN.{length}
use Rattle.header.specs.Entries.{entries}
use Rattle.header.specs.Entry.{Entry, body_of}
use Rattle.header.specs.Grammar.{IsHeader, Parse, SayAll}
use Rattle.header.specs.declared.Header.{Header}
use Rattle.header.specs.declared.Statement.{Statement}
use Rattle.header.proofs.FrameLaws.{header_sound, header_complete}
use Rattle.header.proofs.SayLaws.{entries_say}
use Rattle.header.proofs.StatementLaws.{statements_sound, statements_complete}
use Rattle.blocks.specs.Grammar.{HasHeader}
use Rattle.blocks.proofs.Said.{said_once}
use Rattle.locality.specs.Moved.{moved_outcome, moved_header, moved_statement, moved_entry}
use Rattle.locality.proofs.EntryShift.{entries_shift}
use Rattle.locality.proofs.FrameShift.{header_shift}
use Rattle.locality.proofs.StatementShift.{body_shift, statements_of_shift}

module _ (p s : List ℕ) where
  header_up : {at : ℕ} {h : Header} → IsHeader s at h → IsHeader (p ++ s) (length p + at) (moved_header (length p) h)
  header_up {at} x = header_sound (header_shift p s at ∙ ap (moved_outcome (length p) (moved_header (length p))) (header_complete x))

  parse_up : {h : Header} {ts : List Statement} → Parse s h ts
      → Parse (p ++ s) (moved_header (length p) h) (map (moved_statement (length p)) ts)
  parse_up {h} x =
      statements_sound (p ++ s) (length p + 0) (moved_header (length p) h)
      (statements_of_shift p s 0 h ∙ ap (moved_outcome (length p) (map (moved_statement (length p)))) (statements_complete s 0 h x))

  pub entries_up : (h : Header) (ts : List Statement)
      → entries (body_of (p ++ s) (moved_header (length p) h)) (map (moved_statement (length p)) ts) ≡ map (moved_entry (length p)) (entries (body_of s h) ts)
  entries_up h ts = rw (body_shift p s h) (entries_shift p (body_of s h) ts)

  pub has_up : {at : ℕ} {h : Header} {ts : List Statement} {es : List Entry} → HasHeader s at h ts es
      → HasHeader (p ++ s) (length p + at) (moved_header (length p) h) (map (moved_statement (length p)) ts) (map (moved_entry (length p)) es)
  has_up {h = h} {ts = ts} {es = es} x =
      let body = body_of (p ++ s) (moved_header (length p) h) in
      let said : entries body (map (moved_statement (length p)) ts) ≡ map (moved_entry (length p)) es =
      entries_up h ts ∙ ap (map (moved_entry (length p))) (sym (said_once x)) in
      record {
        header = header_up x.header;
        parse = parse_up x.parse;
        says =
            subst (λ (ds : List Entry). SayAll body (map (moved_statement (length p)) ts) ds) said
            (entries_say body (map (moved_statement (length p)) ts));
      }
