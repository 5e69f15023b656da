-- A key in one header: what is looked up among the entries that are read of it is what the grammar says.
use Rattle.std.specs.Prelude.{Some, slice_get}
use mathlib.Core.Path.{◌≡◌, sym, subst, ◌∙◌}
use mathlib.Core.List.{List}
use Prim.Native.Nat.{ℕ}
use Rattle.scan.proofs.Finds.{Finds, finds_by}
use Rattle.header.specs.Entries.{entries, lookup}
use Rattle.header.specs.Entry.{Entry, body_of}
use Rattle.header.specs.declared.Header.{Header}
use Rattle.header.specs.declared.Statement.{Statement}
use Rattle.header.proofs.SayLaws.{entries_say}
use Rattle.blocks.specs.Grammar.{HasHeader, Partition}
use Rattle.blocks.specs.Places.{EntryAt}
use Rattle.blocks.specs.declared.Row.{Row}
use Rattle.blocks.proofs.Said.{said_same, keys_distinct}
use Rattle.blocks.proofs.PlaceLaws.{finds_entry, one_at}
use Rattle.blocks.proofs.Roles.{general_two}
use Rattle.blocks.proofs.Unambiguous.{block_of_lem, row_header}
use Rattle.locality.proofs.Rows.{member_at}
use Rattle.fields.specs.Keyword.{HeaderHas}

-- A header stands at an offset, with what it says.
pub record Headed (s : List ℕ) (start : ℕ) : Type 0 where
  pub header : Header
  pub statements : List Statement
  pub entries : List Entry
  pub stands : HasHeader s start header statements entries

-- ---- A key in it

module _ {s : List ℕ} {start : ℕ} where
  module _ {key : List ℕ} where
    -- The entry of the key, in the entries of any header at the offset.
    stands_in : {h : Header} {ts : List Statement} {es : List Entry} → HasHeader s start h ts es
        → {e : Entry} (x : HeaderHas s start key e) → EntryAt es x.number e
    stands_in k {e} x = subst (λ (l : List Entry). EntryAt l x.number e) (said_same x.stands k) x.at

    pub finds_in_header : (x : Headed s start) → Finds (HeaderHas s start key) (lookup key x.entries)
    finds_in_header x =
        finds_by
        (λ e a. record {
          header = x.header;
          statements = x.statements;
          entries = x.entries;
          stands = x.stands;
          number = a.0;
          at = a.1;
          key_is = a.2;
        })
        (λ e y. (y.number, stands_in x.stands y, y.key_is))
        (finds_entry key x.entries)

    pub one_in_header : {e f : Entry} → HeaderHas s start key e → HeaderHas s start key f → e ≡ f
    one_in_header x y =
        one_at (keys_distinct x.stands).distinct x.at (stands_in x.stands y) (x.key_is ∙ sym y.key_is)

-- ---- The headers of a partition

module _ {s : List ℕ} {rows : List Row} (p : Partition s rows) where
  pub row_headed : (b : ℕ) {row : Row} → slice_get rows b ≡ Some row → Headed s row.start
  row_headed b at =
      let r = row_header p (member_at rows b at) in
      record {
        header = r.header;
        statements = r.statements;
        entries = entries (body_of s r.header) r.statements;
        stands = record { header = r.stands; parse = r.parse; says = entries_say (body_of s r.header) r.statements };
      }

  -- The general header, if there is one, stands at 0.
  module _ {first : Row} (at : slice_get rows 0 ≡ Some first) (general : first.kind ≡ 0) where
    pub general_stands : HasHeader s 0 p.first_header.heads.header p.first_header.heads.statements p.first_header.entries
    general_stands =
        let f = p.first_header.heads in
        let e : 0 ≡ f.start = f.gap.end_to_end (general_two (block_of_lem p (member_at rows 0 at)).2.rules.role general) in
        subst (λ (i : ℕ). HasHeader s i f.header f.statements p.first_header.entries) (sym e) f.stands

    abbrev pub general_headed : Headed s 0
    general_headed = record {
      header = p.first_header.heads.header;
      statements = p.first_header.heads.statements;
      entries = p.first_header.entries;
      stands = general_stands;
    }
