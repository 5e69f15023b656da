-- The rules for a block see the keys and values of its header, and not where these stand: entries that are alike keep the same rules.
use Rattle.std.specs.Prelude.{None}
use mathlib.Core.Path.{◌≡◌, refl, sym, subst, ◌∙◌}
use mathlib.Core.Logic.{◌≢◌, ◌⊎◌}
use mathlib.Core.List.{List, [], ◌∷◌, map}
use Prim.Native.Nat.{ℕ}
use native.Mathlib.Omega.{arith}
use Rattle.scan.proofs.Cases.{none_some}
use Rattle.header.specs.Entry.{Entry}
use Rattle.blocks.specs.Grammar.{Rules, Declares, plain, data-first, general-first, HasRole, plain-block, general_block, data_block, KeepsRules}
use Rattle.blocks.specs.Places.{Kind, EntryAt, here, later, HasKey, IsEdfKey, StartsWithEdfKey, CountsAs, CountsIn, counts, SizeIs, size, binary_size}
use Rattle.blocks.specs.Values.{Absent, NumberOr, LengthOrAbsent}
use Rattle.blocks.specs.declared.Row.{Row}
use Rattle.locality.specs.Moved.{moved_entry, starting_at}

-- The same keys and values, in order.
pub data Alike : List Entry → List Entry → Type 0 where
  nothing : Alike [] []
  more : {x y : Entry} {xs ys : List Entry} → x.key ≡ y.key → x.value ≡ y.value → Alike xs ys → Alike (x ∷ xs) (y ∷ ys)

pub alike_sym : {es ds : List Entry} → Alike es ds → Alike ds es
alike_sym nothing = nothing
alike_sym (more k v a) = more (sym k) (sym v) (alike_sym a)

pub moved_alike : (n : ℕ) (es : List Entry) → Alike es (map (moved_entry n) es)
moved_alike n [] = nothing
moved_alike n (e ∷ es) = more refl refl (moved_alike n es)

-- ---- Statements

record Counterpart (ds : List Entry) (n : ℕ) (e : Entry) : Type 0 where
  entry : Entry
  at : EntryAt ds n entry
  key_is : entry.key ≡ e.key
  value_is : entry.value ≡ e.value

counterpart : {es ds : List Entry} {n : ℕ} {e : Entry} → Alike es ds → EntryAt es n e → Counterpart ds n e
counterpart {n = n} {e = e} nothing x4 = elim x4 [ ]
counterpart (more {y = y} k v a) here = record { entry = y; at = here; key_is = sym k; value_is = sym v }
counterpart (more k v a) (later at) =
    let c = counterpart a at in
    record { entry = c.entry; at = later c.at; key_is = c.key_is; value_is = c.value_is }

module _ {es ds : List Entry} (a : Alike es ds) where
  pub has_key : {n : ℕ} {key value : List ℕ} → HasKey es n key value → HasKey ds n key value
  has_key h =
      let c = counterpart a h.at in
      record { entry = c.entry; at = c.at; key_is = c.key_is ∙ h.key_is; value_is = c.value_is ∙ h.value_is }

  starts_with : StartsWithEdfKey es → StartsWithEdfKey ds
  starts_with h =
      let c = counterpart a h.at in
      record { entry = c.entry; at = c.at; edf = subst IsEdfKey (sym c.key_is) h.edf }

  counts_as : {key value : List ℕ} → CountsAs es key value → CountsAs ds key value
  counts_as h =
      let c = counterpart a h.counts.at in
      record {
        number = h.number;
        entry = c.entry;
        counts = record {
          at = c.at;
          edf = subst IsEdfKey (sym c.key_is) h.counts.edf;
          before = λ m x l at.
              let b = counterpart (alike_sym a) at in
              subst IsEdfKey b.key_is (h.counts.before m b.entry l b.at);
        };
        key_is = c.key_is ∙ h.key_is;
        value_is = c.value_is ∙ h.value_is;
      }

  counts_in : {kind : Kind} {key value : List ℕ} → CountsIn kind es key value → CountsIn kind ds key value
  counts_in (counts h) = counts (counts_as h)

  size_is : {kind : Kind} {value : List ℕ} → SizeIs kind es value → SizeIs kind ds value
  size_is (size h) = size (has_key h)
  size_is (binary_size h) = binary_size (counts_as h)

-- ---- Keys that may be absent

module _ {Has Other : List ℕ → Type 0} (to : (v : List ℕ) → Has v → Other v) (back : (v : List ℕ) → Other v → Has v) where
  absent_as : Absent Has → Absent Other
  absent_as n v h = n v (back v h)

  number_as : {default least n : ℕ} → NumberOr Has default least n → NumberOr Other default least n
  number_as (NumberOr.absent n) = NumberOr.absent (absent_as n)
  number_as (NumberOr.given {v = v} h w l) = NumberOr.given (to v h) w l

  length_as : {header : ℕ} → LengthOrAbsent Has header → LengthOrAbsent Other header
  length_as (LengthOrAbsent.absent n) = LengthOrAbsent.absent (absent_as n)
  length_as (LengthOrAbsent.given {v = v} h w) = LengthOrAbsent.given (to v h) w

-- ---- A data block

-- Where it stands matters in a file with a general header alone: there the first block is that one.
module _ {r : Rules} {start other : ℕ} {es ds : List Entry} {row : Row} (a : Alike es ds) (kind : row.kind ≡ 1)
    (later : (r.general ≡ None) ⊎ (start ≢ 0) → (r.general ≡ None) ⊎ (other ≢ 0)) (at : ℕ) where
  role_alike : HasRole r start es row → HasRole r other ds (starting_at at row)
  role_alike (plain-block k b i) =
      plain-block k b (record { sequence = i.sequence; instance = i.instance; memory = i.memory })
  role_alike (general_block k x z b i) = absurd (omega arith)
  role_alike (data_block k x b f i) = data_block k (later x) b (has_key a f) i

  pub rules_alike : KeepsRules r start es row → KeepsRules r other ds (starting_at at row)
  rules_alike k = record {
    role = role_alike k.role;
    size = number_as (λ v. size_is a) (λ v. size_is (alike_sym a)) k.size;
    no_file_name = absent_as (λ v. counts_in a) (λ v. counts_in (alike_sym a)) k.no_file_name;
    multiple = k.multiple;
    header_size = length_as (λ v. counts_in a) (λ v. counts_in (alike_sym a)) k.header_size;
  }

-- A first header that says as much gives the file the same rules.
pub declares_alike : {es ds : List Entry} {r : Rules} → Alike es ds → r.general ≡ None → Declares es r → Declares ds r
declares_alike a g (plain n e) = plain (λ h. n (starts_with (alike_sym a) h)) e
declares_alike a g (data-first h e) = data-first (has_key a h) e
declares_alike a g (general-first h) = absurd (none_some (sym g ∙ h.general))
