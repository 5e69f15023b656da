-- Where the loop that opens a file stands: at its start, after a turn, and at its end.
use Rattle.scan.specs.Outcome.{Outcome, error_at}
use Rattle.std.specs.Prelude.{ℕ, None, Some, Ok, Err}
use mathlib.Core.Path.{◌≡◌, refl, sym, ◌∙◌}
use mathlib.Core.Bool.{true, false}
use mathlib.Core.Logic.{◌≢◌}
use mathlib.Core.List.{List}
use Prim.Native.Nat.{ℕ, ◌+◌, ◌≤◌, ◌<◌}
use native.Mathlib.Omega.{arith}
use lib.ListN.{length, take, set, length-set}
use Rattle.scan.specs.declared.Error.{Error}
use Rattle.scan.proofs.Cases.{by_order}
use Rattle.blocks.specs.Judging.{rules_with}
use Rattle.blocks.specs.Limits.{block_limit, plain_boundary}
use Rattle.blocks.specs.Opening.{repeats, opened}
use Rattle.blocks.specs.declared.Accepted.{Accepted}
use Rattle.blocks.specs.declared.FileRules.{FileRules}
use Rattle.blocks.specs.declared.Row.{Row}
use Rattle.opening.specs.Core.{step_of, counted, Opens}
use Rattle.opening.proofs.Turns.{answer_from, turn_ends, turn_fails, turn_repeats, turn_on, block_before}

-- The rows are a whole table, and the answer from here is the answer from the start.
pub record Stands (s : List ℕ) (rows : List Row) (count end : ℕ) (r : FileRules) : Type 0 where
  pub few : count ≤ block_limit
  pub whole : length rows ≡ block_limit
  pub answers : opened s ≡ answer_from s rows count end r

-- In an error it does not matter which rows were placed.
pub refused_with : {s : List ℕ} (rows : List Row) {r : Outcome ℕ} {e : Error} → r ≡ Err e → Opens s (Err e) → Opens s (counted rows r)
refused_with rows q h = rw q h

module _ (s : List ℕ) {rows : List Row} where
  -- At the start no row is placed.
  pub starts : length rows ≡ block_limit → Stands s rows 0 0 (rules_with 1 plain_boundary 0)
  unfolding opened
  starts p = record { few = omega arith; whole = p; answers = refl }

  module _ {count end : ℕ} {r : FileRules} (h : Stands s rows count end r) where
    -- At the end of the file the rows so far are the answer,
    pub ends : step_of s count end r ≡ Ok None → Opens s (Ok (record { rows = rows; count = count }))
    ends e = record { says = sym (h.answers ∙ turn_ends s rows count end r h.few h.whole e); bounded = (h.few, h.whole) }

    -- and an error of the next block is.
    refuses : {x : Error} → answer_from s rows count end r ≡ Err x → Opens s (Err x)
    refuses t = record { says = sym (h.answers ∙ t); bounded = tt }

    pub fails : {x : Error} → step_of s count end r ≡ Err x → Opens s (Err x)
    fails e = refuses (turn_fails s rows count end r h.few h.whole e)

    module _ {a : Accepted} (e : step_of s count end r ≡ Ok (Some a)) where
      pub room : count < block_limit
      room =
          let n : count ≢ block_limit = block_before s count end r a e in
          by_order block_limit count (λ l. absurd (n (omega (arith, h.few)))) (λ l. l)

      pub twice : repeats (take count rows) a.row ≡ true → Opens s (Err (error_at 13 a.row.start))
      twice t = refuses (turn_repeats s rows count end r h.few h.whole e t)

      pub goes_on : repeats (take count rows) a.row ≡ false → Stands s (set rows count a.row) (count + 1) a.next a.rules
      goes_on t =
          let l : count < block_limit = room in
          record {
            few = omega arith;
            whole = simp length-set h.whole;
            answers = h.answers ∙ turn_on s rows count end r h.few h.whole e t;
          }
