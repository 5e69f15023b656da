-- The main theorems about real numbers, for a file that has a partition. `ReadReal` is the contract of the call `real` (specs/Calls);
-- `IsReal`, `IsNumeral` and `IsOutOfBounds` say what a text stands for (crates/reals/specs/Form).
use Rattle.std.specs.Prelude.{None, Some, Ok, Err, slice_get}
use Rattle.scan.specs.Outcome.{error_at, Outcome}
use mathlib.Core.Path.{◌≡◌, ◌∙◌}
use mathlib.Core.List.{List}
use mathlib.Core.Logic.Iff
use mathlib.Core.Logic.{◌↔◌}
use Prim.Native.Nat.{ℕ, ◌≤◌}
use lib.ListN.{length}
-- ---- The call and its answers
use Rattle.reals.specs.declared.Real.{Real}
use Rattle.edf.specs.Calls.{ReadReal}
-- ---- What stands in the file
use Rattle.reals.specs.Form.{IsNumeral, IsReal, IsOutOfBounds}
use Rattle.reals.specs.Numeral.{Numeral}
use Rattle.header.specs.Entry.{Entry}
use Rattle.blocks.specs.Grammar.{Partition}
use Rattle.blocks.specs.Limits.{file_limit}
use Rattle.blocks.specs.declared.Row.{Row}
use Rattle.fields.specs.Keyword.{HasKeyword, LacksKeyword}
-- ---- Laws
use Rattle.fields.proofs.KeywordLaws.{keyword_missing, block_missing}
use Rattle.quantities.proofs.ReadLaws.{real_is, real_formless, real_outside, no_real}
use Rattle.edf.proofs.CallLaws.{answers_as}
-- ---- A text has one parse, and stands for one real number at most
pub use Rattle.reals.proofs.OneParse.{one_parse}
pub use Rattle.reals.proofs.Main.{one_numeral, one_real}
-- ---- Its float is finite, none is nearer to what is written, of two that are just as near it is the even one, it is exact where what is
-- written is a whole number, and zero keeps its sign
pub use Rattle.reals.proofs.ValueLaws.{value_finite, value-nearest, value_even, value_exact, value-zero}

module _ {s : List ℕ} {rows : List Row} (small : length s ≤ file_limit) (partition : Partition s rows) (block : ℕ) where
  -- ---- A block of the file, with its row

  module _ {row : Row} (at : slice_get rows block ≡ Some row) {key : List ℕ} {r : Outcome Real} (call : ReadReal s block key r) where
    -- A keyword whose statement says e.
    module _ {e : Entry} (has : HasKeyword s rows row key e) where
      -- `real` answers the real number that the value stands for;
      pub reads_real : {x : Real} → (r ≡ Ok x) ↔ IsReal e.value x
      reads_real {x} = Iff.trans (answers_as (Ok x) call.answers) (real_is small partition block at key has)

      -- 18 exactly if the value has not the form of one;
      pub refuses_form : (r ≡ Err (error_at 18 0)) ↔ ((x : Numeral) → IsNumeral e.value x → ⊥)
      refuses_form =
          Iff.trans (answers_as (Err (error_at 18 0)) call.answers) (real_formless small partition block at key has)

      -- 27 exactly if it has the form and is outside the bounds;
      pub refuses_bounds : (r ≡ Err (error_at 27 0)) ↔ IsOutOfBounds e.value
      refuses_bounds =
          Iff.trans (answers_as (Err (error_at 27 0)) call.answers) (real_outside small partition block at key has)

    -- and 16 where no statement in reach has the key.
    pub real_missing : LacksKeyword s rows row key → r ≡ Err (error_at 16 0)
    real_missing n = (call.answers ∙ no_real s block key ((keyword_missing small partition block at key).1 n))

  -- ---- No such block: 16

  pub real_no_block : slice_get rows block ≡ None → {key : List ℕ} {r : Outcome Real} → ReadReal s block key r → r ≡ Err (error_at 16 0)
  real_no_block at {key} {r} c = (c.answers ∙ no_real s block key (block_missing small partition block at key))
