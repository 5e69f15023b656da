-- The view of a block, by the rows of the opened file.
use Rattle.std.specs.Prelude.{None, Some, Ok, Err, slice_get}
use Rattle.scan.specs.Outcome.{Outcome, refused}
use mathlib.Core.Path.{◌≡◌, refl, sym, ap, subst, ◌∙◌}
use mathlib.Core.Bool.{true, false, ◌&&◌}
use mathlib.Core.List.{List, [], ◌∷◌}
use Prim.Native.Nat.{ℕ, zero, suc, ◌+◌, ◌≤◌, ◌<◌}
use native.Mathlib.Omega.{arith}
use borrow.Author.Tests.{lt-leb, eqb-true}
use lib.Dec.{eqb}
use lib.ListN.{length, take, get_or, length-take}
use lib.Seq.{length-take-le, get_or-take}
use Rattle.scan.specs.declared.Error.{Error}
use Rattle.scan.proofs.Cases.{by_test, by_option, by_outcome, by_order, both_true, none_some, ok-failed}
use Rattle.header.specs.Entry.{body_of}
use Rattle.header.specs.Frame.{header_at}
use Rattle.header.specs.Grammar.{IsHeader, Parse}
use Rattle.header.specs.Statements.{statements_of, leading_statements}
use Rattle.header.specs.declared.Header.{Header}
use Rattle.header.specs.declared.Statement.{Statement}
use Rattle.header.proofs.FrameLaws.{header_complete}
use Rattle.header.proofs.Leading.{leading-chain}
use Rattle.header.proofs.StatementLaws.{statements_complete}
use Rattle.blocks.specs.Opening.{opened, opened_file}
use Rattle.blocks.specs.declared.Row.{Row}
use Rattle.blocks.proofs.Answers.{within_limit}
use Rattle.blocks.proofs.Sound.{opened-sound}
use Rattle.blocks.proofs.Unambiguous.{general_row, row_header, row_inside}
use Rattle.locality.proofs.Rows.{member_at}
use Rattle.opening.specs.Core.{Opens, IsBounded}
use Rattle.opening.specs.declared.Opened.{Opened}
use Rattle.keyword.specs.Keyword.{View, entries_at, general_entries, view_of}
use Rattle.keyword.specs.Viewing.{header_entries, view_at, shared_entries, row_view}

-- ---- Rows of a list

module _ {A : Type 0} where
  pub element_at : (l : List A) (k : ℕ) (d : A) → k < length l → slice_get l k ≡ Some (get_or l k d)
  element_at [] k d h = absurd (omega arith)
  element_at (x ∷ l) zero d h = refl
  element_at (x ∷ l) (suc k) d h = element_at l k d (omega arith)

  pub none_past : (l : List A) (k : ℕ) → slice_get l k ≡ None → length l ≤ k
  none_past [] k e = omega arith
  none_past (x ∷ l) zero e = absurd (none_some (sym e))
  none_past (x ∷ l) (suc k) e = omega (arith, none_past l k e)

  pub none_first : (l : List A) (k : ℕ) {x : A} → slice_get l 0 ≡ None → slice_get l k ≡ Some x → ⊥
  none_first [] k e f = none_some f
  none_first (y ∷ l) k e f = none_some (sym e)

  pub none_at : (l : List A) (k : ℕ) → length l ≤ k → slice_get l k ≡ None
  none_at [] k h = refl
  none_at (x ∷ l) zero h = absurd (omega arith)
  none_at (x ∷ l) (suc k) h = none_at l k (omega arith)

  -- In the first places of a list.
  pub taken_at : (n : ℕ) (l : List A) (k : ℕ) (d : A) → n ≤ length l → k < n → slice_get (take n l) k ≡ Some (get_or l k d)
  taken_at n l k d h i =
      element_at (take n l) k d (omega (arith, length-take-le n l h)) ∙ ap Some (get_or-take n l k d i)

-- ---- The header of a row

-- A header whose statements pass.
pub record Headed (s : List ℕ) (start : ℕ) : Type 0 where
  pub header : Header
  pub statements : List Statement
  pub frame : header_at s start ≡ Ok header
  pub checked : statements_of s start header ≡ Ok statements
  pub leading : leading_statements (body_of s header) (suc header.left) ≡ statements

module _ (s : List ℕ) where
  parsed_headed : {start : ℕ} {h : Header} {ts : List Statement} → IsHeader s start h → Parse s h ts → Headed s start
  parsed_headed {start} {h} {ts} i p = record {
    header = h;
    statements = ts;
    frame = header_complete i;
    checked = statements_complete s start h p;
    leading = leading-chain (body_of s h) (suc h.left) ts p.shape;
  }

  module _ {rows : List Row} (o : opened s ≡ Ok rows) where
    -- Each row of an opened file has one at its start,
    pub row_headed : (k : ℕ) {row : Row} → slice_get rows k ≡ Some row → Headed s row.start
    row_headed k {row} e =
        let r = row_header (opened-sound s o) (member_at rows k e) in
        parsed_headed r.stands r.parse

    -- and a general block starts with the file.
    pub general_headed : {first : Row} → slice_get rows 0 ≡ Some first → eqb first.kind 0 ≡ true → Headed s 0
    general_headed {first} e t =
        subst (Headed s) (general_row (opened-sound s o) (member_at rows 0 e) (eqb-true first.kind 0 t)) (row_headed 0 e)

    -- A row lies inside the file.
    pub row_within : (k : ℕ) {row : Row} → slice_get rows k ≡ Some row → row.start + row.header + row.size ≤ length s
    row_within k e = row_inside (opened-sound s o) (member_at rows k e)

  -- What such a header says.
  headed_entries : {start : ℕ} (x : Headed s start) → entries_at s start ≡ Ok (header_entries s x.header)
  unfolding entries_at header_entries
  headed_entries x = rw (x.frame, x.checked, x.leading)

  -- ---- The view of a row, by the headers that are found

  module _ (first row : Row) where
    pub own_failed : {e : Error} → Err e ≡ header_at s row.start → Err e ≡ row_view s first row
    unfolding row_view
    own_failed e = rw (sym e)

    module _ {own : Header} (e : Ok own ≡ header_at s row.start) where
      pub no_general : eqb row.kind 1 && eqb first.kind 0 ≡ false
          → Ok (view_at s (record { row = row; own = own; general = None })) ≡ row_view s first row
      unfolding row_view view_at
      no_general b = rw (sym e, b)

      module _ (b : eqb row.kind 1 && eqb first.kind 0 ≡ true) where
        pub general_failed : {x : Error} → Err x ≡ header_at s 0 → Err x ≡ row_view s first row
        unfolding row_view
        general_failed f = rw (sym e, b, sym f)

        pub with_general : {general : Header} → Ok general ≡ header_at s 0
            → Ok (view_at s (record { row = row; own = own; general = Some general })) ≡ row_view s first row
        unfolding row_view view_at
        with_general f = rw (sym e, b, sym f)

  -- ---- The view of a block, by what opening answers

  pub opened_bounded : (r : Outcome Opened) → Opens s r → {o : Opened} → r ≡ Ok o → IsBounded o
  opened_bounded r h a = rw a at h.bounded

  module _ (k : ℕ) where
    pub too_large : 1073741824 < length s → refused 1 0 ≡ view_of s k
    unfolding view_of opened_file
    too_large l = rw (lt-leb (length s) 1073741824 l)

    module _ (l : length s ≤ 1073741824) where
      pub not_opened : {e : Error} → Err e ≡ opened s → Err e ≡ view_of s k
      unfolding view_of
      not_opened e = rw (within_limit s l, sym e)

      pub no_block : {rows : List Row} → Ok rows ≡ opened s → length rows ≤ k → refused 16 0 ≡ view_of s k
      unfolding view_of
      no_block {rows} e h = rw (within_limit s l, sym e, none_at rows k h)

      -- The view of its row.
      row_view_lem : {rows : List Row} → Ok rows ≡ opened s → {first row : Row} → slice_get rows 0 ≡ Some first → slice_get rows k ≡ Some row
          → row_view s first row ≡ view_of s k
      unfolding view_of general_entries row_view
      row_view_lem {rows} e {first} {row} f g =
          let x = row_headed (sym e) k g in
          by_test (eqb row.kind 1 && eqb first.kind 0)
          (λ b.
          let y = general_headed (sym e) f (both_true (eqb row.kind 1) (eqb first.kind 0) b).1 in
          rw (within_limit s l, sym e, f, g, headed_entries x, x.frame, b, headed_entries y, y.frame))
          (λ b. rw (within_limit s l, sym e, f, g, headed_entries x, x.frame, b))

      -- The rows in the first places of an array.
      pub block_view : (n : ℕ) (rows : List Row) → Ok (take n rows) ≡ opened s → n ≤ length rows → k < n → (z : Row)
          → row_view s (get_or rows 0 z) (get_or rows k z) ≡ view_of s k
      block_view n rows e h i z =
          row_view_lem e (taken_at n rows 0 z h (omega arith)) (taken_at n rows k z h i)

    -- By the answer of opening.
    module _ (r : Outcome Opened) (h : Opens s r) (l : length s ≤ 1073741824) where
      pub opening-failed : {e : Error} → r ≡ Err e → Err e ≡ view_of s k
      opening-failed a = not_opened l (rw a at h.says)

      module _ {o : Opened} (a : r ≡ Ok o) where
        pub opening_short : o.count ≤ k → refused 16 0 ≡ view_of s k
        opening_short i = no_block l (rw a at h.says) (omega (arith, length-take o.count o.rows))

        pub opening_row : k < o.count → (z : Row)
            → {x : Outcome View} → x ≡ row_view s (get_or o.rows 0 z) (get_or o.rows k z) → x ≡ view_of s k
        opening_row i z q =
            let b = opened_bounded r h a in
            q ∙ block_view l o.count o.rows (rw a at h.says) (omega (arith, b.0, b.1)) i z

  -- ---- What a view says of its row

  row_kept : (first row : Row) (v : View) → row_view s first row ≡ Ok v → row ≡ v.row
  unfolding row_view
  row_kept first row v q =
      by_outcome (header_at s row.start)
      (λ own e. by_outcome (shared_entries s first row)
      (λ general f.
      let p : Ok (record { row = row; own = header_entries s own; general = general }) ≡ Ok v = rw (e, f) at q in
      let r : ◌≡◌ {A = View} (record { row = row; own = header_entries s own; general = general }) v = cc in
      ap (λ (w : View). w.row) r)
      (λ x f. absurd (ok-failed (sym (rw (e, f) at q)))))
      (λ x e. absurd (ok-failed (sym (rw e at q))))

  pub record Seen (k : ℕ) (v : View) : Type 0 where
    pub limit : length s ≤ 1073741824
    pub rows : List Row
    pub opens : opened s ≡ Ok rows
    pub at : slice_get rows k ≡ Some v.row

  pub view_seen : (k : ℕ) (v : View) → view_of s k ≡ Ok v → Seen k v
  view_seen k v e =
      by_order (length s) 1073741824
      (λ l. by_outcome (opened s)
      (λ rows o. by_option (slice_get rows k)
      (λ g. absurd (ok-failed (sym e ∙ sym (no_block k l (sym o) (none_past rows k g)))))
      (λ row g. by_option (slice_get rows 0)
      (λ f. absurd (none_first rows k f g))
      (λ first f. record { limit = l; rows = rows; opens = o; at = g ∙ ap Some (row_kept first row v (row_view_lem k l (sym o) f g ∙ e)) })))
      (λ x o. absurd (ok-failed (sym e ∙ sym (not_opened k l (sym o))))))
      (λ l. absurd (ok-failed (sym e ∙ sym (too_large k l))))

  -- It lies inside the file, which is not too large.
  pub view_inside : (k : ℕ) (v : View) → view_of s k ≡ Ok v
      → (v.row.start + v.row.header + v.row.size ≤ length s) × (length s ≤ 1073741824)
  view_inside k v e = let x = view_seen k v e in (row_within x.opens k x.at, x.limit)
