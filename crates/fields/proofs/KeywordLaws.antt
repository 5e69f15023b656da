-- A keyword of a block: `entry_of` answers the statement that the grammar says, and 16 exactly where no statement in reach has the key.
use Rattle.std.specs.Prelude.{Option, None, Some, Ok, slice_get}
use Rattle.std.proofs.lemmas.Option.{same_Some}
use Rattle.scan.specs.Outcome.{refused, present}
use mathlib.Core.Path.{◌≡◌, refl, sym, ap, ◌∙◌}
use mathlib.Core.Bool.{Bool, true, false, cond, not, ◌&&◌}
use mathlib.Core.List.{List, []}
use mathlib.Core.Logic.{◌↔◌}
use Prim.Native.Nat.{ℕ, ◌≤◌}
use lib.Dec.{eqb}
use lib.ListN.{length}
use Rattle.scan.proofs.Cases.{by_test, none_some}
use Rattle.scan.proofs.Decides.{Decides, decided, holds, fails, decides_by, decides_and, decides_not, eqb_decides}
use Rattle.scan.proofs.Finds.{Finds, found, missing, finds_some, finds_none, finds_has, finds_no}
use Rattle.text.specs.Key.{key_of}
use Rattle.header.specs.Entries.{lookup}
use Rattle.header.specs.Entry.{Entry}
use Rattle.blocks.specs.Counting.{is_edf_key}
use Rattle.blocks.specs.Grammar.{Partition}
use Rattle.blocks.specs.Limits.{file_limit}
use Rattle.blocks.specs.declared.Row.{Row}
use Rattle.blocks.proofs.Answers.{file_accepted}
use Rattle.blocks.proofs.PlaceLaws.{edf_decides}
use Rattle.keyword.specs.Keyword.{View, is_general, general_entries, view_of, first_of, lookup_in, entry_of}
use Rattle.keyword.proofs.Headers.{entries_read}
use Rattle.fields.specs.Keyword.{HeaderHas, HeaderLacks, Inherits, HasKeyword, LacksKeyword}
use Rattle.fields.proofs.HeaderLaws.{finds_in_header, one_in_header, row_headed, general_stands, general_headed}
use Rattle.fields.proofs.Present.{present_some, present_none}

-- ---- Whether the general header is in reach

abbrev pub shared : List Row → Row → Bool
shared rows row = eqb row.kind 1 && is_general (slice_get rows 0)

general_decides : (o : Option Row) → Decides ((first : Row) × (o ≡ Some first) × (first.kind ≡ 0)) (is_general o)
general_decides None = fails (λ h. none_some h.1)
general_decides (Some row) =
    decides_by (λ e. (row, refl, e)) (λ h. ap (λ (r : Row). r.kind) (same_Some row h.0 h.1) ∙ h.2)
    (eqb_decides row.kind 0)

pub inherits_decides : (rows : List Row) (row : Row) (key : List ℕ) → Decides (Inherits rows row key) (shared rows row && not (is_edf_key key))
inherits_decides rows row key =
    decides_by
    (λ h. let g = h.0.1 in record { data_block = h.0.0; first = g.0; first_is = g.1; general = g.2; no_edf_key = h.1 })
    (λ i. ((i.data_block, (i.first, i.first_is, i.general)), i.no_edf_key))
    (decides_and (decides_and (eqb_decides row.kind 1) (general_decides (slice_get rows 0))) (decides_not (edf_decides key)))

-- The general entries that are looked through.
pub in_reach : (edf share : Bool) (key : List ℕ) (es : List Entry)
    → cond edf None (lookup key (cond share es [])) ≡ cond (share && not edf) (lookup key es) None
unfolding lookup
in_reach true true key es = refl
in_reach true false key es = refl
in_reach false true key es = refl
in_reach false false key es = refl

-- ---- By what is found in the two headers

module _ {s : List ℕ} {rows : List Row} {row : Row} {sought : List ℕ} where
  pub lacks : HeaderLacks s row.start (key_of sought) → (Inherits rows row (key_of sought) → HeaderLacks s 0 (key_of sought))
      → LacksKeyword s rows row sought
  lacks n m e (HasKeyword.own x) = n e x
  lacks n m e (HasKeyword.general k i x) = m i e x

  finds_by_headers : {own general : Option Entry} {b : Bool} → Finds (HeaderHas s row.start (key_of sought)) own
      → Decides (Inherits rows row (key_of sought)) b → (Inherits rows row (key_of sought) → Finds (HeaderHas s 0 (key_of sought)) general)
      → Finds (HasKeyword s rows row sought) (first_of own (cond b general None))
  finds_by_headers (found x) d g = found (HasKeyword.own x)
  finds_by_headers (missing n) (holds i) g = inherited (g i)
    where
      inherited : {general : Option Entry} → Finds (HeaderHas s 0 (key_of sought)) general → Finds (HasKeyword s rows row sought) general
      inherited (found x) = found (HasKeyword.general n i x)
      inherited (missing m) = missing (lacks n (λ j. m))
  finds_by_headers (missing n) (fails k) g = missing (lacks n (λ i. absurd (k i)))

  -- A block has one statement of a keyword at most.
  pub one-keyword : {e f : Entry} → HasKeyword s rows row sought e → HasKeyword s rows row sought f → e ≡ f
  one-keyword (HasKeyword.own x) (HasKeyword.own y) = one_in_header x y
  one-keyword (HasKeyword.own x) (HasKeyword.general n i y) = absurd (n _ x)
  one-keyword (HasKeyword.general n i x) (HasKeyword.own y) = absurd (n _ y)
  one-keyword (HasKeyword.general n i x) (HasKeyword.general m j y) = one_in_header x y

-- ---- A block of a file with a partition

module _ {s : List ℕ} {rows : List Row} (small : length s ≤ file_limit) (p : Partition s rows) (b : ℕ) where
  module _ {row : Row} (at : slice_get rows b ≡ Some row) where
    -- Its view.
    abbrev pub view_here : View
    view_here = record {
      row = row;
      own = (row_headed p b at).entries;
      general = cond (shared rows row) p.first_header.entries [];
    }

    pub view_is : view_of s b ≡ Ok view_here
    unfolding view_of general_entries
    view_is =
        let read = (file_accepted s small).1 p in
        let own = entries_read (row_headed p b at).stands in
        by_test (shared rows row)
        (λ t.
        let g = (decided (decides_and (eqb_decides row.kind 1) (general_decides (slice_get rows 0))) t).1 in
        rw (read, at, own, t, entries_read (general_stands p g.1 g.2)))
        (λ t. rw (read, at, own, t))

    module _ (sought : List ℕ) where
      pub finds_keyword : Finds (HasKeyword s rows row sought) (lookup_in view_here sought)
      unfolding lookup_in
      finds_keyword =
          let k = key_of sought in
          rw (in_reach (is_edf_key k) (shared rows row) k p.first_header.entries)
          (finds_by_headers (finds_in_header (row_headed p b at)) (inherits_decides rows row k)
          (λ i. finds_in_header (general_headed p i.first_is i.general)))

      entry_by : entry_of s b sought ≡ present (lookup_in view_here sought) 16 0
      unfolding entry_of
      entry_by = rw view_is

      pub keyword-found : {e : Entry} → (entry_of s b sought ≡ Ok e) ↔ HasKeyword s rows row sought e
      keyword-found = (
        λ q. finds_has finds_keyword (present_some 16 0 (lookup_in view_here sought) (sym entry_by ∙ q)),
        λ h. entry_by ∙ ap (λ (o : Option Entry). present o 16 0) (finds_some finds_keyword (λ y x z. one-keyword x z) h),
      )

      pub keyword_missing : (entry_of s b sought ≡ refused 16 0) ↔ LacksKeyword s rows row sought
      keyword_missing = (
        λ q. finds_no finds_keyword (present_none 16 0 (lookup_in view_here sought) (sym entry_by ∙ q)),
        λ n. entry_by ∙ ap (λ (o : Option Entry). present o 16 0) (finds_none finds_keyword n),
      )

  -- No such block.
  module _ (at : slice_get rows b ≡ None) where
    pub view_missing : view_of s b ≡ refused 16 0
    unfolding view_of
    view_missing = rw ((file_accepted s small).1 p, at)

    pub block_missing : (sought : List ℕ) → entry_of s b sought ≡ refused 16 0
    unfolding entry_of
    block_missing sought = rw view_missing
