-- The rules of a file as the code holds them: a number for the kind, and 0 for the data blocks asked for where there is no general
-- header.
use Rattle.std.specs.Prelude.{Option, None, Some}
use mathlib.Core.Path.{◌≡◌, refl, ap}
use mathlib.Core.Logic.{◌≢◌}
use mathlib.Core.List.{List}
use Prim.Native.Nat.{ℕ}
use native.Mathlib.Omega.{arith}
use Rattle.scan.proofs.Finds.{missing, finds_by}
use Rattle.header.specs.Entries.{lookup, value_in}
use Rattle.header.specs.Entry.{Entry}
use Rattle.blocks.specs.Counting.{counting, counting_in, size_value}
use Rattle.blocks.specs.Grammar.{Rules}
use Rattle.blocks.specs.Keys.{SizeKey, BinarySizeKey}
use Rattle.blocks.specs.Places.{Kind, kind_1, kind_2, CountsAs, CountsIn, counts, SizeIs, size, binary_size}
use Rattle.blocks.specs.declared.FileRules.{FileRules}
use Rattle.blocks.proofs.PlaceLaws.{DistinctKeys, KeyIn, finds_key, finds_counting, one_key, one_counting}
use Rattle.blocks.proofs.ValueLaws.{Reads}

abbrev pub kind_number : Kind → ℕ
kind_number kind_1 = 1
kind_number kind_2 = 2

pub kinds_differ : kind_1 ≡ kind_2 → ⊥
kinds_differ e = omega (arith, ap kind_number e)

-- A file is of one kind or the other.
pub by_kind : {A : Type 0} (k : Kind) → (k ≡ kind_1 → A) → (k ≡ kind_2 → A) → A
by_kind kind_1 f g = f refl
by_kind kind_2 f g = g refl

abbrev pub asked_of : Option ℕ → ℕ
asked_of None = 0
asked_of (Some n) = n

abbrev pub coded : Rules → FileRules
coded r = record { kind = kind_number r.kind; boundary = r.boundary; expected = asked_of r.general }

-- A general header asks for some data blocks: no count is taken for none.
pub record Asking (r : Rules) : Type 0 where
  pub some_asked : (n : ℕ) → r.general ≡ Some n → n ≢ 0

-- ---- The keys that are read in a file of a kind

-- In kind 1 none counts.
in_kind_2 : {kind : Kind} {es : List Entry} {key value : List ℕ} → CountsIn kind es key value → kind_number kind ≡ 2
in_kind_2 (counts c) = refl

pub none_counts : {es : List Entry} {key value : List ℕ} → CountsIn kind_1 es key value → ⊥
none_counts c = omega (arith, in_kind_2 c)

module _ {es : List Entry} (distinct : DistinctKeys es) where
  pub counting_reads : (key : List ℕ) → Reads (CountsAs es key) (value_in key (counting es))
  counting_reads key = record { finds = finds_counting key es; one = one_counting distinct }

  pub kind_reads : (kind : Kind) (key : List ℕ) → Reads (CountsIn kind es key) (value_in key (counting_in (kind_number kind) es))
  unfolding counting_in lookup
  kind_reads kind_1 key = record { finds = missing (λ v c. none_counts c); one = λ a b. absurd (none_counts a) }
  kind_reads kind_2 key = record {
    finds = finds_by (λ v c. counts c) (λ v c. counted c) (finds_counting key es);
    one = λ a b. one_counting distinct (counted a) (counted b);
  }
    where
      counted : {v : List ℕ} → CountsIn kind_2 es key v → CountsAs es key v
      counted (counts c) = c

  pub size-reads : (kind : Kind) → Reads (SizeIs kind es) (size_value (kind_number kind) es)
  unfolding size_value
  size-reads kind_1 = record {
    finds = finds_by (λ v h. size h.1) (λ v h. plain h) (finds_key SizeKey es);
    one = λ a b. one_key distinct (plain a) (plain b);
  }
    where
      plain : {v : List ℕ} → SizeIs kind_1 es v → KeyIn es SizeKey v
      plain (size {n = n} h) = (n, h)
  size-reads kind_2 = record {
    finds = finds_by (λ v c. binary_size c) (λ v c. counted c) (finds_counting BinarySizeKey es);
    one = λ a b. one_counting distinct (counted a) (counted b);
  }
    where
      counted : {v : List ℕ} → SizeIs kind_2 es v → CountsAs es BinarySizeKey v
      counted (binary_size c) = c
