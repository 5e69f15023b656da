-- `opened` answers what there is: the partition of a file that has one, and the error that is due of one that has none.
use Rattle.std.specs.Prelude.{Ok, Err}
use mathlib.Core.Path.{◌≡◌, refl, ◌∙◌}
use mathlib.Core.Bool.{true, false}
use mathlib.Core.Logic.{◌≢◌}
use mathlib.Core.List.{List, [], ◌∷◌, ◌++◌, append_assoc, append-nil}
use Prim.Native.Nat.{ℕ, suc, ◌+◌, ◌-◌, ◌≤◌}
use native.Mathlib.Omega.{arith}
use borrow.Author.Tests.{ne_eqb}
use lib.Dec.{eqb}
use lib.ListN.{length, length-append}
use Rattle.scan.specs.Chain.{Chain}
use Rattle.scan.specs.declared.Error.{Error}
use Rattle.scan.proofs.Chains.{chain_end}
use Rattle.scan.proofs.Decides.{passes, rejects}
use Rattle.blocks.specs.Cases.{NextAt, Passed, FileError, first_block, later-block, identity-twice, too_many, wrong-count}
use Rattle.blocks.specs.Grammar.{Rules, Gap, SpacedBlock, DistinctIdentities, Partition}
use Rattle.blocks.specs.Judging.{block_at}
use Rattle.blocks.specs.Opening.{first_start, start_after, ended, repeats, opened_from, opened}
use Rattle.blocks.specs.Places.{Kind, kind_2}
use Rattle.blocks.specs.declared.Row.{Row}
use Rattle.blocks.proofs.BlockLaws.{block-complete, block-error-complete}
use Rattle.blocks.proofs.BlockPlaces.{first, later, block_inside, spaced_inside, spaced_next, block_named}
use Rattle.blocks.proofs.Coded.{kind_number, coded, Asking}
use Rattle.blocks.proofs.FirstLaws.{first_at, first_start_lem}
use Rattle.blocks.proofs.Gaps.{next_start_lem, gap-next}
use Rattle.blocks.proofs.Identities.{AllNamed, repeats_decides, distinct_middle, member_left, member_middle}
use Rattle.blocks.proofs.Sound.{count_decides, ended_decides, none_repeated, no_rules, no_rules_asking, after_none}
use Rattle.blocks.proofs.Sound.{passed_asking, passed_named, passed_past, passed_inside, not_first}
use Rattle.blocks.proofs.Steps.{step_done, step_count, step_full, step_failed, step_twice, step_on}

module _ (s : List ℕ) where
  -- The file goes on where it does not end.
  not_ended : (count at : ℕ) → at ≢ length s → ended count at (length s) ≡ false
  not_ended count at n = rejects (ended_decides count at (length s)) (λ h. n h.1)

  -- After some blocks the next is looked for where the grammar says.
  after_some : {kind : Kind} (rows : List Row) {end at : ℕ} → 1 ≤ length rows → end ≤ length s → NextAt s kind end at
      → start_after s (length rows) (kind_number kind) end ≡ at
  unfolding start_after
  after_some rows some h x = rw (ne_eqb (length rows) 0 (λ z. omega arith)) (next_start_lem s h x)

  -- Where a block stands the file goes on.
  start_open : {r : Rules} {end next : ℕ} {row : Row} → SpacedBlock s r end row next → row.start ≢ length s
  start_open x q = omega (arith, block_inside x.block)

  -- ---- Opening passes the blocks of a chain

  module _ (r : Rules) (asking : Asking r) (n end : ℕ) where
    walk : (xs rows : List Row) (at : ℕ) → at ≤ length s → 1 ≤ length rows → at ≢ 0 → Chain (SpacedBlock s r) (λ k. k ≡ end) at xs
        → (r.kind ≡ kind_2 → DistinctIdentities (rows ++ xs)) → AllNamed r (rows ++ xs) → length (rows ++ xs) ≤ 256
        → opened_from (length xs + n) s rows at (coded r) ≡ opened_from n s (rows ++ xs) end (coded r)
    walk [] rows at inside some past c d named few = let z : 0 + n ≡ n = omega arith in cc (z, c, append-nil rows)
    walk (x ∷ xs) rows at inside some past c d named few =
        let join : (rows ++ (x ∷ [])) ++ xs ≡ rows ++ (x ∷ xs) = append_assoc rows (x ∷ []) xs in
        let fuel : suc (length xs) + n ≡ suc (length xs + n) = omega arith in
        let room : length rows ≢ 256 = λ q. omega (arith, length-append rows (x ∷ xs)) in
        let fresh : repeats rows x ≡ false =
        rejects (repeats_decides rows x (λ y m. named y (member_left rows (x ∷ xs) m)) (named x (member_middle rows x xs))) (distinct_middle rows x xs d) in
        let not_first : eqb (length rows) 0 ≡ false = ne_eqb (length rows) 0 (λ z. omega arith) in
        rw fuel
        (step_on (length xs + n) s rows at (coded r) (after_some rows some inside (spaced_next c.1))
        (not_ended (length rows) x.start (start_open c.1)) room
        (rw not_first (block-complete s r asking (later past (spaced_next c.1)) c.1 refl))
        fresh
        ∙ rw join at (walk xs (rows ++ (x ∷ [])) c.0 (spaced_inside c.1).1 (omega (arith, length-append rows (x ∷ [])))
        (λ z. omega (arith, spaced_inside c.1)) c.2 (rw join d) (rw join named) (rw join few)))

  -- So it comes to where blocks pass.
  pub reach : {r : Rules} (rows : List Row) {end : ℕ} → Passed s r rows end → (n : ℕ) → n + length rows ≡ 257
      → opened s ≡ opened_from n s rows end (coded r)
  unfolding opened
  reach [] p n fuel = absurd (omega (arith, p.not_empty))
  reach {r} (x ∷ xs) {end} p n fuel =
      let k : length xs + n ≡ 256 = omega arith in
      let c = p.blocks in
      step_on 256 s [] 0 (coded no_rules) (after_none s 1) (rejects (ended_decides 0 (first_start s) (length s)) (λ h. h.0 refl)) (λ z. omega arith)
      (block-complete s no_rules no_rules_asking (first first_at) c.1 p.first_header) (none_repeated (block_named c.1.block))
      ∙ rw k at (walk r (passed_asking p) n end xs (x ∷ []) c.0 (spaced_inside c.1).1 (omega arith)
      (λ z. omega (arith, spaced_inside c.1)) c.2 p.identities (passed_named p) p.few)

  -- ---- A partition is answered

  -- Where only a gap is left, the file ends.
  after_gap : {r : Rules} {rows : List Row} {end : ℕ} → Passed s r rows end → Gap s r.kind end (length s)
      → start_after s (length rows) (kind_number r.kind) end ≡ length s
  after_gap {rows = rows} p g = after_some rows p.not_empty (passed_inside p) (gap-next s g)

  at_end : {r : Rules} {rows : List Row} {end : ℕ} → Passed s r rows end → ended (length rows) (length s) (length s) ≡ true
  at_end {rows = rows} p = passes (ended_decides (length rows) (length s) (length s)) ((λ z. omega (arith, p.not_empty)), refl)

  pub opened_complete : {rows : List Row} → Partition s rows → opened s ≡ Ok rows
  opened_complete {rows} c =
      let t = chain_end (SpacedBlock s c.rules) (λ at. Gap s c.rules.kind at (length s)) 0 rows c.blocks in
      let p : Passed s c.rules rows t.0 = record {
        first_header = c.first_header;
        blocks = t.2;
        not_empty = c.not_empty;
        few = omega (arith, c.few);
        identities = c.identities;
      } in
      let fuel : suc (256 - length rows) + length rows ≡ 257 = omega (arith, c.few) in
      reach rows p (suc (256 - length rows)) fuel
      ∙ step_done (256 - length rows) s rows t.0 (coded c.rules) (after_gap p t.1) (at_end p)
      (passes (count_decides (passed_asking p) (length rows)) c.count)

  -- ---- And an error that is due

  module _ {r : Rules} {rows : List Row} {end : ℕ} (p : Passed s r rows end) where
    -- The step at which opening stands then.
    stands : opened s ≡ opened_from (suc (256 - length rows)) s rows end (coded r)
    stands = reach rows p (suc (256 - length rows)) (omega (arith, p.few))

    after : {at : ℕ} → NextAt s r.kind end at → start_after s (length rows) (kind_number r.kind) end ≡ at
    after x = after_some rows p.not_empty (passed_inside p) x

  pub error_complete : {e : Error} → FileError s e → opened s ≡ Err e
  unfolding opened
  error_complete (first_block {at = at} x q) =
      step_failed 256 s [] 0 (coded no_rules) (after_none s 1 ∙ first_start_lem x) (rejects (ended_decides 0 at (length s)) (λ h. h.0 refl)) (λ z. omega arith)
      (block-error-complete s no_rules no_rules_asking (first x) q)
  error_complete (later-block {r = r} {rows = rows} {end = end} {at = at} p few x n q) =
      stands p ∙ step_failed (256 - length rows) s rows end (coded r) (after p x) (not_ended (length rows) at n) (λ z. omega arith)
      (rw (not_first s p) (block-error-complete s r (passed_asking p) (later (passed_past p) x) q))
  error_complete (identity-twice {r = r} {rows = rows} {end = end} {next = next} {row = row} p few b q) =
      let x = spaced_next b in
      let block : block_at s (coded r) (eqb (length rows) 0) row.start ≡ Ok (record { row = row; next = next; rules = coded r }) =
      rw (not_first s p) (block-complete s r (passed_asking p) (later (passed_past p) x) b refl) in
      stands p ∙ step_twice (256 - length rows) s rows end (coded r) (after p x) (not_ended (length rows) row.start (start_open b)) (λ z. omega arith)
      block (passes (repeats_decides rows row (passed_named p) (block_named b.block)) q)
  error_complete (too_many {r = r} {rows = rows} {end = end} {at = at} p full x n) =
      stands p ∙ step_full (256 - length rows) s rows end (coded r) (after p x) (not_ended (length rows) at n) full
  error_complete (wrong-count {r = r} {rows = rows} {end = end} p g n) =
      stands p ∙ step_count (256 - length rows) s rows end (coded r) (after_gap p g) (at_end p)
      (rejects (count_decides (passed_asking p) (length rows)) n)
