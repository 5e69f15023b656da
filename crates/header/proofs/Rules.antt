-- The tests of the rules on all statements decide them: keys and values are short, keys are distinct.
use mathlib.Core.Path.{◌≡◌, ap}
use mathlib.Core.Bool.{false, not}
use mathlib.Core.List.Memᴰ
use mathlib.Core.List.{List, [], ◌∷◌, Memᴰ}
use mathlib.Core.Logic.{⊎_elim}
use Prim.Native.Nat.{ℕ, ◌≤◌}
use native.Mathlib.Omega.{arith}
use lib.ListN.{length}
use Rattle.scan.specs.Byte.{bytes_at}
use Rattle.scan.proofs.Decides.{Decides, holds, fails, decided}
use Rattle.scan.proofs.Decides.{decides_by, decides_and, decides_or, decides_not, leb_decides, same_decides}
use Rattle.text.specs.Text.{every}
use Rattle.text.specs.Value.{trimmed}
use Rattle.text.proofs.Everys.{every_decides, lacks_decides}
use Rattle.lexical.proofs.TrimLaws.{trimmed_holds, trimmed-length}
use Rattle.header.specs.Entries.{trimmed_length}
use Rattle.header.specs.Entry.{key, raw_value}
use Rattle.header.specs.Grammar.{Short, Distinct}
use Rattle.header.specs.Statements.{is_short, among, are_distinct}
use Rattle.header.specs.declared.Statement.{Statement}

module _ (s : List ℕ) where
  -- What is left of a value is short exactly if the trimmed span is.
  pub is_short_lem : {t : Statement} → length (key s t) ≤ 64 → (trimmed (raw_value s t)).length ≤ 2048 → Short s t
  is_short_lem {t} k v = record {
    key_short = k;
    offset = (trimmed (raw_value s t)).offset;
    trimmed = bytes_at (raw_value s t) (trimmed (raw_value s t));
    trim = trimmed_holds (raw_value s t);
    value_short = omega (arith, trimmed-length (trimmed_holds (raw_value s t)));
  }

  short_decides : (t : Statement) → Decides (Short s t) (is_short s t)
  unfolding is_short trimmed_length
  short_decides t =
      decides_by (λ h. is_short_lem h.0 h.1) (λ h. (h.key_short, omega (arith, h.value_short, trimmed-length h.trim)))
      (decides_and (leb_decides _ _) (leb_decides _ _))

  pub all_short_decides : (ts : List Statement)
      → Decides ((t : Statement) → Memᴰ t ts → Short s t) (every (is_short s) ts)
  all_short_decides = every_decides (Short s) short_decides

  pub one_long : (ts : List Statement) → every (is_short s) ts ≡ false → (t : Statement) × Memᴰ t ts × (Short s t → ⊥)
  one_long ts e = decided (lacks_decides (Short s) short_decides ts) (ap not e)

pub among_decides : (k : List ℕ) (js : List (List ℕ)) → Decides (Memᴰ k js) (among k js)
unfolding among
among_decides k [] = fails (λ m. Memᴰ.not-nil m)
among_decides k (j ∷ js) =
    decides_by (λ d. ⊎_elim (λ e. Memᴰ.head e) (λ m. Memᴰ.tail m) d) (λ m. Memᴰ.cases_cons m)
    (decides_or (same_decides k j) (among_decides k js))

pub distinct_decides : (ks : List (List ℕ)) → Decides (Distinct ks) (are_distinct ks)
unfolding are_distinct
distinct_decides [] = holds tt
distinct_decides (k ∷ ks) = decides_and (decides_not (among_decides k ks)) (distinct_decides ks)
