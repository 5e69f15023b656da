-- A turn of the loop that opens a file, on plain values. The loop's rows are an array of which the first `count` count.
use Rattle.std.specs.Prelude.{Option, None, Some, Ok, Err, ℕ}
use Rattle.scan.specs.Outcome.{Outcome, refused, error_at}
use mathlib.Core.Path.{◌≡◌, subst}
use mathlib.Core.Bool.{true, false}
use mathlib.Core.Logic.{◌≢◌}
use mathlib.Core.List.{List}
use Prim.Native.Nat.{ℕ, suc, ◌+◌, ◌-◌, ◌≤◌}
use native.Mathlib.Numerals.{add-one}
use native.Mathlib.Omega.{arith}
use borrow.Author.Tests.{eqb-true, eqb-false}
use lib.Dec.{eqb}
use lib.ListN.{length, take, set}
use lib.Seq.{take-suc-set, length-take-le}
use Rattle.scan.specs.declared.Error.{Error}
use Rattle.scan.proofs.Cases.{by_test, by_outcome}
use Rattle.blocks.specs.Judging.{block_at}
use Rattle.blocks.specs.Opening.{start_after, ended, count_matches, repeats, opened_from}
use Rattle.blocks.specs.declared.Accepted.{Accepted}
use Rattle.blocks.specs.declared.FileRules.{FileRules}
use Rattle.blocks.specs.declared.Row.{Row}
use Rattle.blocks.proofs.Steps.{step_done, step_count, step_full, step_failed, step_twice, step_on}
use Rattle.opening.specs.Core.{step_of}

-- ---- A step, with the tests that led to it: `start` is where the next block would start

pub data StepIs (s : List ℕ) (count start : ℕ) (r : FileRules) : Outcome (Option Accepted) → Type 0 where
  done : ended count start (length s) ≡ true → count_matches r.expected count ≡ true → StepIs s count start r (Ok None)
  miscounted : ended count start (length s) ≡ true → count_matches r.expected count ≡ false → StepIs s count start r (Err (error_at 15 0))
  full : ended count start (length s) ≡ false → count ≡ 256 → StepIs s count start r (Err (error_at 14 start))
  block : {a : Accepted} → ended count start (length s) ≡ false → count ≢ 256 → block_at s r (eqb count 0) start ≡ Ok a
      → StepIs s count start r (Ok (Some a))
  broken : {e : Error} → ended count start (length s) ≡ false → count ≢ 256 → block_at s r (eqb count 0) start ≡ Err e
      → StepIs s count start r (Err e)

pub step_is : (s : List ℕ) (count end : ℕ) (r : FileRules) → StepIs s count (start_after s count r.kind end) r (step_of s count end r)
unfolding step_of
step_is s count end r =
    let start = start_after s count r.kind end in
    by_test (ended count start (length s))
    (λ e. by_test (count_matches r.expected count) (λ c. rw (e, c) (done e c)) (λ c. rw (e, c) (miscounted e c)))
    (λ e. by_test (eqb count 256)
    (λ f. rw (e, f) (full e (eqb-true count 256 f)))
    (λ f. by_outcome (block_at s r (eqb count 0) start)
    (λ a b. rw (e, f, b) (block e (eqb-false count 256 f) b))
    (λ x b. rw (e, f, b) (broken e (eqb-false count 256 f) b))))

-- ---- A turn

-- The answer from where the loop stands.
abbrev pub answer_from : List ℕ → List Row → ℕ → ℕ → FileRules → Outcome (List Row)
answer_from s rows count end r = opened_from (257 - count) s (take count rows) end r

module _ (s : List ℕ) (rows : List Row) (count end : ℕ) (r : FileRules) (few : count ≤ 256) (whole : length rows ≡ 256) where
  counted : length (take count rows) ≡ count
  counted = length-take-le count rows (omega arith)

  fuel : 257 - count ≡ suc (256 - count)
  fuel = omega arith

  -- What a step makes of it.
  abbrev Turned : Outcome (Option Accepted) → Type 0
  Turned (Err e) = answer_from s rows count end r ≡ Err e
  Turned (Ok None) = answer_from s rows count end r ≡ Ok (take count rows)
  Turned (Ok (Some a)) =
      (repeats (take count rows) a.row ≡ true → answer_from s rows count end r ≡ refused 13 a.row.start)
      × (repeats (take count rows) a.row ≡ false → answer_from s rows count end r ≡ answer_from s (set rows count a.row) (count + 1) a.next a.rules)

  -- Where the next block starts.
  abbrev next : ℕ
  next = start_after s count r.kind end

  after : start_after s (length (take count rows)) r.kind end ≡ next
  after = rw counted

  turned : (x : Outcome (Option Accepted)) → StepIs s count next r x → Turned x
  turned x (done e c) = rw fuel (step_done (256 - count) s (take count rows) end r after (rw counted e) (rw counted c))
  turned x (miscounted e c) = rw fuel (step_count (256 - count) s (take count rows) end r after (rw counted e) (rw counted c))
  turned x (full e f) = rw fuel (step_full (256 - count) s (take count rows) end r after (rw counted e) (rw counted f))
  turned x (broken e f b) =
      rw fuel (step_failed (256 - count) s (take count rows) end r after (rw counted e) (rw counted f) (rw counted b))
  turned x (block {a = a} e f b) =
      let left : 257 - (count + 1) ≡ 256 - count = omega arith in
      let here : block_at s r (eqb (length (take count rows)) 0) next ≡ Ok a = rw counted b in (
        (λ t. rw fuel (step_twice (256 - count) s (take count rows) end r after (rw counted e) (rw counted f) here t)),
        (λ t. rw (fuel, left, add-one count, take-suc-set rows count a.row (omega arith))
            (step_on (256 - count) s (take count rows) end r after (rw counted e) (rw counted f) here t)),
      )

  turn : {x : Outcome (Option Accepted)} → step_of s count end r ≡ x → Turned x
  turn e = subst Turned e (turned (step_of s count end r) (step_is s count end r))

  pub turn_ends : step_of s count end r ≡ Ok None → answer_from s rows count end r ≡ Ok (take count rows)
  turn_ends e = turn e

  pub turn_fails : {x : Error} → step_of s count end r ≡ Err x → answer_from s rows count end r ≡ Err x
  turn_fails e = turn e

  pub turn_repeats : {a : Accepted} → step_of s count end r ≡ Ok (Some a) → repeats (take count rows) a.row ≡ true
      → answer_from s rows count end r ≡ refused 13 a.row.start
  turn_repeats e = (turn e).0

  pub turn_on : {a : Accepted} → step_of s count end r ≡ Ok (Some a) → repeats (take count rows) a.row ≡ false
      → answer_from s rows count end r ≡ answer_from s (set rows count a.row) (count + 1) a.next a.rules
  turn_on e = (turn e).1

-- A block comes after fewer than 256 others.
pub block_before : (s : List ℕ) (count end : ℕ) (r : FileRules) (a : Accepted) → step_of s count end r ≡ Ok (Some a) → count ≢ 256
block_before s count end r a q = go (step_of s count end r) (step_is s count end r) q
  where
    go : (x : Outcome (Option Accepted)) → StepIs s count (start_after s count r.kind end) r x → x ≡ Ok (Some a) → count ≢ 256
    go x (done e c) p = absurd (let z : ◌≡◌ {A = ℕ} 0 1 = cc in omega arith)
    go x (miscounted e c) p = absurd (let z : ◌≡◌ {A = ℕ} 0 1 = cc in omega arith)
    go x (full e f) p = absurd (let z : ◌≡◌ {A = ℕ} 0 1 = cc in omega arith)
    go x (broken e f b) p = absurd (let z : ◌≡◌ {A = ℕ} 0 1 = cc in omega arith)
    go x (block e f b) p = f
