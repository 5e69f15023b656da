-- What `opened` answers: rows are a partition of the file, and an error is given in its case.
use Rattle.std.specs.Prelude.{Option, None, Some, Ok, Err}
use Rattle.scan.specs.Outcome.{Outcome}
use mathlib.Core.Path.{◌≡◌, refl, sym, ap, ◌∙◌}
use mathlib.Core.Bool.{true, false}
use mathlib.Core.Logic.{◌≢◌, inr, ⊎_elim}
use mathlib.Core.List.Memᴰ
use mathlib.Core.List.{List, [], ◌∷◌, ◌++◌}
use Prim.Native.Nat.{ℕ, zero, suc, ◌+◌, ◌≤◌, ◌<◌}
use native.Mathlib.Omega.{arith}
use borrow.Author.Tests.{ne_eqb, eqb-true, eqb-false}
use lib.Dec.{eqb}
use lib.ListN.{length, length-append}
use Rattle.scan.specs.declared.Error.{Error}
use Rattle.scan.proofs.Cases.{by_test, by_outcome, none_some}
use Rattle.scan.proofs.Chains.{chain_more, chain_length, chain_inside, chain_member, chain_stops}
use Rattle.scan.proofs.Decides.{Decides, holds, decided, refuted, rejects, decides_by, decides_or, decides_and, decides_not, eqb_decides}
use Rattle.blocks.specs.Cases.{NextAt, Passed, Repeats, FileError, first_block, later-block, identity-twice, too_many, wrong-count}
use Rattle.blocks.specs.Grammar.{Rules, plain_rules, Gap, SpacedBlock, FirstHeader, CountIs, Partition}
use Rattle.blocks.specs.Judging.{block_at}
use Rattle.blocks.specs.Opening.{first_start, next_start, start_after, ended, count_matches, repeats, opened_from, opened}
use Rattle.blocks.specs.Places.{kind_1}
use Rattle.blocks.specs.declared.Accepted.{Accepted}
use Rattle.blocks.specs.declared.Row.{Row}
use Rattle.blocks.proofs.BlockLaws.{BlockSays, block-says}
use Rattle.blocks.proofs.BlockPlaces.{first, later, spaced_inside, block_named}
use Rattle.blocks.proofs.Coded.{kind_number, coded, asked_of, Asking}
use Rattle.blocks.proofs.Declarations.{declares_asking}
use Rattle.blocks.proofs.FirstLaws.{first_at}
use Rattle.blocks.proofs.Gaps.{start-next}
use Rattle.blocks.proofs.Identities.{AllNamed, repeats_decides, distinct_more}
use Rattle.blocks.proofs.Roles.{Named}
use Rattle.blocks.proofs.Steps.{step_done, step_count, step_full, step_failed, step_twice, step_on}

-- ---- The tests

pub count_decides : {r : Rules} → Asking r → (count : ℕ) → Decides (CountIs r.general count) (count_matches (asked_of r.general) count)
unfolding count_matches
count_decides {r} asking count = go r.general asking.some_asked
  where
    go : (g : Option ℕ) → ((n : ℕ) → g ≡ Some n → n ≢ 0) → Decides (CountIs g count) (count_matches (asked_of g) count)
    go None asked = holds tt
    go (Some n) asked =
        decides_by (λ d. ⊎_elim (λ z. absurd (asked n refl z)) (λ e. e) d) inr (decides_or (eqb_decides n 0) (eqb_decides count (suc n)))

pub ended_decides : (count at end : ℕ) → Decides ((count ≢ 0) × (at ≡ end)) (ended count at end)
ended_decides count at end = decides_and (decides_not (eqb_decides count 0)) (eqb_decides at end)

-- Among no rows there is none to repeat.
pub none_repeated : {r : Rules} {x : Row} → Named r x → repeats [] x ≡ false
none_repeated {x = x} named = rejects (repeats_decides [] x (λ y m. absurd (Memᴰ.not-nil m)) named) (λ h. Memᴰ.not-nil h.member)

-- The rules before the first header is read: it is "judged as kind 1".
abbrev pub no_rules : Rules
no_rules = plain_rules kind_1

pub no_rules_asking : Asking no_rules
no_rules_asking = record { some_asked = λ n e. absurd (none_some e) }

-- ---- The blocks that pass

module _ {s : List ℕ} where
  pub passed_asking : {r : Rules} {rows : List Row} {at : ℕ} → Passed s r rows at → Asking r
  passed_asking p = declares_asking p.first_header.declares

  pub passed_named : {r : Rules} {rows : List Row} {end : ℕ} → Passed s r rows end → AllNamed r rows
  passed_named {r} {rows} {end} p y m = block_named (chain_member (SpacedBlock s r) (λ at. at ≡ end) 0 rows p.blocks m).2.block

  pub passed_past : {r : Rules} {rows : List Row} {end : ℕ} → Passed s r rows end → end ≢ 0
  passed_past {r} {rows} {end} p z =
      omega (arith, chain_length (SpacedBlock s r) (λ k x n b. (spaced_inside b).0) end 0 rows p.blocks, p.not_empty)

  pub passed_inside : {r : Rules} {rows : List Row} {end : ℕ} → Passed s r rows end → end ≤ length s
  passed_inside {r} {rows} {end} p =
      chain_inside (SpacedBlock s r) (length s) (λ k x n b. (spaced_inside b).1) end 0 rows (omega arith) p.blocks

  -- One block more that repeats no identity.
  pub passed_more : {r : Rules} {rows : List Row} {end next : ℕ} {row : Row} → Passed s r rows end → length rows < 256
      → SpacedBlock s r end row next → (Repeats r rows row → ⊥) → Passed s r (rows ++ (row ∷ [])) next
  passed_more {r} {rows} {end} {next} {row} p l b n = record {
    first_header = p.first_header;
    blocks = chain_more (SpacedBlock s r) end next row b 0 rows p.blocks;
    not_empty = omega (arith, length-append rows (row ∷ []));
    few = omega (arith, length-append rows (row ∷ []));
    identities = distinct_more rows row p.identities n;
  }

  pub passed_first : {r : Rules} {next : ℕ} {row : Row} → FirstHeader s r → SpacedBlock s r 0 row next → Passed s r (row ∷ []) next
  passed_first {next = next} f b = record {
    first_header = f;
    blocks = (next, b, refl);
    not_empty = omega arith;
    few = omega arith;
    identities = λ k. ((λ y m a. Memᴰ.not-nil m), tt);
  }

-- ---- What an answer says

abbrev pub OpenedSays : List ℕ → Outcome (List Row) → Type 0
OpenedSays s (Ok rows) = Partition s rows
OpenedSays s (Err e) = FileError s e

module _ (s : List ℕ) where
  -- At the end of the file.
  end_says : (n : ℕ) {r : Rules} (rows : List Row) {end start : ℕ} → Passed s r rows end
      → start_after s (length rows) (kind_number r.kind) end ≡ start → Gap s r.kind end (length s) → ended (length rows) start (length s) ≡ true
      → OpenedSays s (opened_from (suc n) s rows end (coded r))
  end_says n {r} rows {end} p at g e =
      by_test (count_matches (asked_of r.general) (length rows))
      (λ c. rw (step_done n s rows end (coded r) at e c) (record {
        rules = r;
        first_header = p.first_header;
        blocks = chain_stops (SpacedBlock s r) (λ k. Gap s r.kind k (length s)) end g 0 rows p.blocks;
        not_empty = p.not_empty;
        few = omega (arith, p.few);
        identities = p.identities;
        count = decided (count_decides (passed_asking p) (length rows)) c;
      }))
      (λ c. rw (step_count n s rows end (coded r) at e c) (wrong-count p g (refuted (count_decides (passed_asking p) (length rows)) c)))

  -- After the blocks that pass.
  module _ {r : Rules} {rows : List Row} {end : ℕ} (p : Passed s r rows end) where
    pub not_first : eqb (length rows) 0 ≡ false
    not_first = ne_eqb (length rows) 0 (λ z. omega (arith, p.not_empty))

    -- Where the next block is looked for.
    abbrev pub next : ℕ
    next = next_start s (kind_number r.kind) end

    pub after_passed : start_after s (length rows) (kind_number r.kind) end ≡ next
    unfolding start_after
    after_passed = rw not_first

    pub next_at : NextAt s r.kind end next
    next_at = start-next s r.kind end (passed_inside p)

    not_at_end : ended (length rows) next (length s) ≡ false → next ≢ length s
    not_at_end e q = refuted (ended_decides (length rows) next (length s)) e ((λ z. omega (arith, p.not_empty)), q)

    -- What it is.
    next_says : (o : Outcome Accepted) → block_at s (coded r) (eqb (length rows) 0) next ≡ o → BlockSays s r false end next o
    next_says o b = rw (rw not_first at b) at (block-says s r (passed_asking p) (later (passed_past p) next_at))

  from_says : (n : ℕ) (r : Rules) (rows : List Row) (end : ℕ) → Passed s r rows end → n + length rows ≡ 257
      → OpenedSays s (opened_from n s rows end (coded r))
  from_says zero r rows end p fuel = absurd (omega (arith, p.few))
  from_says (suc n) r rows end p fuel =
      let at = after_passed p in
      by_test (ended (length rows) (next p) (length s))
      (λ e. end_says n rows p at (rw (decided (ended_decides (length rows) (next p) (length s)) e).1 at (next_at p).gap) e)
      (λ e. by_test (eqb (length rows) 256)
      (λ f. rw (step_full n s rows end (coded r) at e (eqb-true _ _ f)) (too_many p (eqb-true _ _ f) (next_at p) (not_at_end p e)))
      (λ f.
      let few : length rows < 256 = omega (arith, p.few, eqb-false (length rows) 256 f) in
      by_outcome (block_at s (coded r) (eqb (length rows) 0) (next p))
      (λ a b.
      let k = next_says p (Ok a) b in
      let block : SpacedBlock s r end a.row a.next = rw k.from at k.block in
      let same : a.rules ≡ coded r = sym k.coded_are ∙ ap coded k.from in
      let twice = repeats_decides rows a.row (passed_named p) (block_named block.block) in
      by_test (repeats rows a.row)
      (λ t. rw (step_twice n s rows end (coded r) at e (eqb-false _ _ f) b t) (identity-twice p few block (decided twice t)))
      (λ t. rw (step_on n s rows end (coded r) at e (eqb-false _ _ f) b t, same)
      (from_says n r (rows ++ (a.row ∷ [])) a.next (passed_more p few block (refuted twice t))
      (omega (arith, length-append rows (a.row ∷ []))))))
      (λ x b. rw (step_failed n s rows end (coded r) at e (eqb-false _ _ f) b)
      (later-block p few (next_at p) (not_at_end p e) (next_says p (Err x) b)))))

  -- Where the first block is looked for.
  pub after_none : (kind : ℕ) → start_after s 0 kind 0 ≡ first_start s
  unfolding start_after
  after_none kind = refl

  -- The whole file.
  pub opened_says : OpenedSays s (opened s)
  unfolding opened
  opened_says =
      by_outcome (block_at s (coded no_rules) true (first_start s))
      (λ a b.
      let k : BlockSays s no_rules true 0 (first_start s) (Ok a) = rw b at first_says in
      rw (step_on 256 s [] 0 (coded no_rules) (after_none 1) refl (λ z. omega arith) b (none_repeated (block_named k.block.block)), sym k.coded_are)
      (from_says 256 k.rules (a.row ∷ []) a.next (passed_first k.from k.block) refl))
      (λ x b. rw (step_failed 256 s [] 0 (coded no_rules) (after_none 1) refl (λ z. omega arith) b) (first_block first_at (rw b at first_says)))
    where
      first_says : BlockSays s no_rules true 0 (first_start s) (block_at s (coded no_rules) true (first_start s))
      first_says = block-says s no_rules no_rules_asking (first first_at)

  -- What `opened` gives is a partition,
  pub opened-sound : {rows : List Row} → opened s ≡ Ok rows → Partition s rows
  opened-sound e = rw e at opened_says

  -- and an error that it gives is due.
  pub error-sound : {x : Error} → opened s ≡ Err x → FileError s x
  error-sound e = rw e at opened_says
