-- The kind of a file and its general header, by the rules that its first header gives.
use Rattle.std.specs.Prelude.{None, Some}
use mathlib.Core.Path.{◌≡◌, refl, sym, ap, ◌∙◌}
use mathlib.Core.Logic.{⊎_elim}
use mathlib.Core.List.{List, [], ◌∷◌, Memᴰ}
use Prim.Native.Nat.{ℕ, ◌≤◌}
use native.Mathlib.Omega.{arith}
use lib.ListN.{length}
use Rattle.scan.specs.Chain.{Chain}
use Rattle.scan.proofs.Cases.{by_option, none_some}
use Rattle.header.specs.Entry.{Entry}
use Rattle.blocks.specs.Grammar.{Rules, plain_rules, Declares, plain, data-first, general-first, HasRole, plain-block, general_block, data_block, Gap, SpacedBlock, FirstHeader, Partition}
use Rattle.blocks.specs.Places.{kind_1, kind_2, StartsWithEdfKey}
use Rattle.blocks.specs.declared.Row.{Row}
use Rattle.blocks.proofs.Coded.{kinds_differ}
use Rattle.blocks.proofs.Declarations.{edf_declares, plain_declares}
use Rattle.blocks.proofs.FirstLaws.{heads-same}
use Rattle.blocks.proofs.IdentityLaws.{identity_named}
use Rattle.blocks.proofs.Unambiguous.{block_of_lem}
use Rattle.locality.specs.Blocks.{general_header, KindIs, without-edf-key, with-edf-key, OfKind}

-- ---- The first header

-- A file of kind 1 has no general header, and headers of any length.
pub plain_rules_lem : {s : List ℕ} {r : Rules} → OfKind kind_1 s → FirstHeader s r → r ≡ plain_rules kind_1
plain_rules_lem {r = r} k f = go k.is
  where
    go : KindIs k.entries kind_1 → r ≡ plain_rules kind_1
    go (without-edf-key n) = plain_declares (rw (heads-same f.heads k.heads) at f.declares) n

pub kind_2_rules : {s : List ℕ} {r : Rules} → OfKind kind_2 s → FirstHeader s r → r.kind ≡ kind_2
kind_2_rules {r = r} k f = go k.is
  where
    go : KindIs k.entries kind_2 → r.kind ≡ kind_2
    go (with-edf-key h) = edf_declares f.declares (rw (heads-same k.heads f.heads) at h)

-- ---- The rows

-- All blocks of a file without a general header are data blocks.
pub data_kind : {r : Rules} {start : ℕ} {es : List Entry} {row : Row} → r.general ≡ None → HasRole r start es row → row.kind ≡ 1
data_kind g (plain-block q b i) = b
data_kind g (general_block q x z b i) = absurd (none_some (sym g ∙ x))
data_kind g (data_block q x b f i) = b

-- The first block of one that has a general header.
general_kind : {r : Rules} {es ds : List Entry} {row : Row} {count : ℕ} → r.general ≡ Some count → Declares ds r → HasRole r 0 es row → row.kind ≡ 0
general_kind g (plain n e) role = absurd (none_some (ap (λ (r : Rules). r.general) (sym e) ∙ g))
general_kind g (data-first h e) role = absurd (none_some (ap (λ (r : Rules). r.general) (sym e) ∙ g))
general_kind g (general-first h) (plain-block q b i) = absurd (kinds_differ (sym q ∙ h.kind))
general_kind g (general-first h) (general_block q x z b i) = b
general_kind g (general-first h) (data_block q x b f i) = ⊎_elim (λ n. absurd (none_some (sym n ∙ g))) (λ n. absurd (n refl)) x

-- Such a file is of kind 2.
asking_two : {r : Rules} {ds : List Entry} {count : ℕ} → r.general ≡ Some count → Declares ds r → r.kind ≡ kind_2
asking_two g (plain n e) = absurd (none_some (ap (λ (r : Rules). r.general) (sym e) ∙ g))
asking_two g (data-first h e) = ap (λ (r : Rules). r.kind) e
asking_two g (general-first h) = h.kind

module _ {s : List ℕ} {rows : List Row} (c : Partition s rows) where
  pub row_kind : c.rules.general ≡ None → {row : Row} → Memᴰ row rows → row.kind ≡ 1
  row_kind g m = data_kind g (block_of_lem c m).2.rules.role

  -- The rows show whether there is a general header.
  pub rules_general : general_header s rows ≡ None → c.rules.general ≡ None
  rules_general e = by_option c.rules.general (λ g. g) (λ count g. absurd (go rows c.blocks c.not_empty e g))
    where
      go : (xs : List Row) → Chain (SpacedBlock s c.rules) (λ at. Gap s c.rules.kind at (length s)) 0 xs → 1 ≤ length xs
          → general_header s xs ≡ None → {count : ℕ} → c.rules.general ≡ Some count → ⊥
      go [] b l q g = omega arith
      go (x ∷ xs) b l q g =
          let d = c.first_header.declares in
          let z : 0 ≡ x.start = b.1.gap.end_to_end (asking_two g d) in
          none_some (sym (rw (general_kind g d (rw (sym z) at b.1.block.rules.role)) at q))

  pub rows-general : c.rules.general ≡ None → general_header s rows ≡ None
  rows-general g = go rows (λ x m. row_kind g m)
    where
      go : (xs : List Row) → ((x : Row) → Memᴰ x xs → x.kind ≡ 1) → general_header s xs ≡ None
      go [] all = refl
      go (x ∷ xs) all = rw (all x (Memᴰ.head refl))

-- A file of kind 1 has none.
pub plain_general : {s : List ℕ} {rows : List Row} → OfKind kind_1 s → Partition s rows → general_header s rows ≡ None
plain_general k c = rows-general c (ap (λ (r : Rules). r.general) (plain_rules_lem k c.first_header))

-- ---- The kind, by the table

-- A data block without an identity.
plain_row : {r : Rules} {start : ℕ} {es : List Entry} {row : Row} → row.kind ≡ 1 → row.instance ≡ 0 → HasRole r start es row → r.kind ≡ kind_1
plain_row k z (plain-block q b i) = q
plain_row k z (general_block q x y b i) = absurd (omega arith)
plain_row k z (data_block q x b f i) = absurd (identity_named i z)

declared_kind_1 : {es : List Entry} {r : Rules} → r.kind ≡ kind_1 → Declares es r → KindIs es kind_1
declared_kind_1 k (plain n e) = without-edf-key n
declared_kind_1 k (data-first h e) = absurd (kinds_differ (sym k ∙ ap (λ (r : Rules). r.kind) e))
declared_kind_1 k (general-first g) = absurd (kinds_differ (sym k ∙ g.kind))

pub kind_by_row : {s : List ℕ} {rows : List Row} → Partition s rows → {row : Row} → Memᴰ row rows → row.kind ≡ 1 → row.instance ≡ 0
    → OfKind kind_1 s
kind_by_row c m k z =
    let f = c.first_header in
    let one = plain_row k z (block_of_lem c m).2.rules.role in
    record { entries = f.entries; heads = rw one at f.heads; is = declared_kind_1 one f.declares }

-- ---- A block as a file of its own

-- Its header, as a first header, gives the file's rules: in kind 2,
declared_data : {r : Rules} {ds : List Entry} → r.general ≡ None → r.kind ≡ kind_2 → Declares ds r → r ≡ plain_rules kind_2
declared_data g k (plain n e) = absurd (kinds_differ (ap (λ (r : Rules). r.kind) (sym e) ∙ k))
declared_data g k (data-first h e) = e
declared_data g k (general-first h) = absurd (none_some (sym g ∙ h.general))

pub declares_data : {r : Rules} {start : ℕ} {es ds : List Entry} {row : Row} → r.general ≡ None → r.kind ≡ kind_2 → Declares ds r → HasRole r start es row
    → Declares es r
declares_data g k d (plain-block q b i) = absurd (kinds_differ (sym q ∙ k))
declares_data g k d (general_block q x z b i) = absurd (none_some (sym g ∙ x))
declares_data g k d (data_block q x b f i) = data-first f (declared_data g k d)

-- and in kind 1, if it does not start with an EDF_ key.
pub declares_plain : {s : List ℕ} {r : Rules} {es : List Entry} → OfKind kind_1 s → FirstHeader s r → (StartsWithEdfKey es → ⊥) → Declares es r
declares_plain k f n = plain n (plain_rules_lem k f)
