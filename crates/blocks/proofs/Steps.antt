-- The steps of opening, on plain values: what `opened_from` answers at each block, by the tests that are made there.
use Rattle.std.specs.Prelude.{Ok, Err}
use Rattle.scan.specs.Outcome.{refused}
use mathlib.Core.Path.{◌≡◌}
use mathlib.Core.Bool.{true, false}
use mathlib.Core.Logic.{◌≢◌}
use mathlib.Core.List.{List, [], ◌∷◌, ◌++◌}
use Prim.Native.Nat.{ℕ, suc}
use borrow.Author.Tests.{eq-eqb, ne_eqb}
use lib.Dec.{eqb}
use lib.ListN.{length}
use Rattle.scan.specs.declared.Error.{Error}
use Rattle.blocks.specs.Judging.{block_at}
use Rattle.blocks.specs.Opening.{start_after, ended, count_matches, repeats, opened_from}
use Rattle.blocks.specs.declared.Accepted.{Accepted}
use Rattle.blocks.specs.declared.FileRules.{FileRules}
use Rattle.blocks.specs.declared.Row.{Row}

module _ (n : ℕ) (s : List ℕ) (rows : List Row) (end : ℕ) (r : FileRules) {start : ℕ} (at : start_after s (length rows) r.kind end ≡ start) where
  -- At the end of the file.
  module _ (e : ended (length rows) start (length s) ≡ true) where
    pub step_done : count_matches r.expected (length rows) ≡ true → opened_from (suc n) s rows end r ≡ Ok rows
    unfolding opened_from
    step_done c = rw (at, e, c)

    pub step_count : count_matches r.expected (length rows) ≡ false → opened_from (suc n) s rows end r ≡ refused 15 0
    unfolding opened_from
    step_count c = rw (at, e, c)

  -- Before it.
  module _ (e : ended (length rows) start (length s) ≡ false) where
    pub step_full : length rows ≡ 256 → opened_from (suc n) s rows end r ≡ refused 14 start
    unfolding opened_from
    step_full f = rw (at, e, eq-eqb (length rows) 256 f)

    module _ (f : length rows ≢ 256) where
      pub step_failed : {x : Error} → block_at s r (eqb (length rows) 0) start ≡ Err x → opened_from (suc n) s rows end r ≡ Err x
      unfolding opened_from
      step_failed b = rw (at, e, ne_eqb (length rows) 256 f, b)

      module _ {a : Accepted} (b : block_at s r (eqb (length rows) 0) start ≡ Ok a) where
        pub step_twice : repeats rows a.row ≡ true → opened_from (suc n) s rows end r ≡ refused 13 a.row.start
        unfolding opened_from
        step_twice t = rw (at, e, ne_eqb (length rows) 256 f, b, t)

        pub step_on : repeats rows a.row ≡ false
            → opened_from (suc n) s rows end r ≡ opened_from n s (rows ++ (a.row ∷ [])) a.next a.rules
        unfolding opened_from
        step_on t = rw (at, e, ne_eqb (length rows) 256 f, b, t)
