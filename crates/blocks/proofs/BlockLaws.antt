-- One block: `block_at` answers the block of the grammar if there is one, and else each error exactly in its case.
use Rattle.std.specs.Prelude.{Ok, Err}
use Rattle.scan.specs.Outcome.{Outcome}
use mathlib.Core.Path.{◌≡◌, sym, ap, subst, ◌∙◌}
use mathlib.Core.Bool.{Bool}
use mathlib.Core.List.{List}
use Prim.Native.Nat.{ℕ}
use lib.ListN.{length}
use Rattle.scan.specs.declared.Error.{Error}
use Rattle.scan.proofs.Cases.{by_option, by_outcome, none_some}
use Rattle.header.specs.Entries.{entries}
use Rattle.header.specs.Entry.{Entry, body_of}
use Rattle.header.specs.Frame.{header_at}
use Rattle.header.specs.Statements.{statements_of}
use Rattle.header.specs.declared.Header.{Header}
use Rattle.header.specs.declared.Statement.{Statement}
use Rattle.header.proofs.FrameLaws.{header_sound, header_complete}
use Rattle.header.proofs.HeaderErrors.{header_error, header_error_complete, statements_error, statements_error_complete}
use Rattle.header.proofs.SayLaws.{entries_say}
use Rattle.header.proofs.StatementLaws.{statements_sound, statements_complete}
use Rattle.blocks.specs.Cases.{BlockError, in_frame, in-statements, no-rules, in-keys, at-brace, at_zero}
use Rattle.blocks.specs.Grammar.{Rules, Declares, HasHeader, IsBlock, SpacedBlock}
use Rattle.blocks.specs.Judging.{rules_for, judged, block_at}
use Rattle.blocks.specs.Places.{kind_1}
use Rattle.blocks.specs.declared.Accepted.{Accepted}
use Rattle.blocks.specs.declared.Row.{Row}
use Rattle.blocks.proofs.BlockPlaces.{spaced_next, heads_file, Rank, first, later, Place, place_of_lem}
use Rattle.blocks.proofs.BlockRules.{RulesAre, RulesFrom, rules_for_sound, rules_for_complete, rules_asking}
use Rattle.blocks.proofs.Coded.{coded, Asking}
use Rattle.blocks.proofs.Declarations.{edf_declares, plain_declares}
use Rattle.blocks.proofs.FirstLaws.{heads-same, heads_proves}
use Rattle.blocks.proofs.Gaps.{next_unique}
use Rattle.blocks.proofs.KeyErrors.{JudgedSays, judged_says, judged_complete, key_error_complete}
use Rattle.blocks.proofs.Said.{said_once, keys_distinct}

-- A block that is read, under rules of the grammar.
pub record BlockRead (s : List ℕ) (given : Rules) (b : Bool) (end : ℕ) (a : Accepted) : Type 0 where
  pub rules : Rules
  pub coded_are : coded rules ≡ a.rules
  pub block : SpacedBlock s rules end a.row a.next
  pub from : RulesFrom s given b rules

-- What an answer says.
abbrev pub BlockSays : List ℕ → Rules → Bool → ℕ → ℕ → Outcome Accepted → Type 0
BlockSays s given b end at (Ok a) = BlockRead s given b end a
BlockSays s given b end at (Err e) = BlockError s (RulesAre given b) at e

-- The steps that a header passes.
module _ {s : List ℕ} {at : ℕ} {h : Header} {ts : List Statement} {es : List Entry} (k : HasHeader s at h ts es) where
  headed : header_at s at ≡ Ok h
  headed = header_complete k.header

  parsed : statements_of s at h ≡ Ok ts
  parsed = statements_complete s at h k.parse

  said : entries (body_of s h) ts ≡ es
  said = sym (said_once k)

-- A block that is judged at its start.
complete_at : (s : List ℕ) (given : Rules) → Asking given → {b : Bool} {end : ℕ} {r : Rules} {row : Row} {next : ℕ}
    → (y : SpacedBlock s r end row next) → Rank s given b end row.start → RulesAre given b y.block.entries r
    → block_at s (coded given) b row.start ≡ Ok (record { row = row; next = next; rules = coded r })
unfolding block_at
complete_at s given asking {b} {r = r} y rank d =
    let x = y.block in
    let k = x.stands in
    rw (headed k, parsed k, said k, rules_for_complete given b r (keys_distinct k) d)
    (judged_complete r (rules_asking given b _ asking d) (place_of_lem given rank k r d).rank (length s) x.header.length (keys_distinct k)
    x.rules x.starts x.length_is (rw x.length_is at x.ends) x.inside)

module _ (s : List ℕ) (given : Rules) (asking : Asking given) {b : Bool} {end at : ℕ} (rank : Rank s given b end at) where
  rules_from : {h : Header} {ts : List Statement} {es : List Entry} (r : Rules) → HasHeader s at h ts es → Place s r b end at h
      → RulesAre given b es r → RulesFrom s given b r
  rules_from {h} {ts} {es} r = go rank
    where
      go : {b : Bool} {end at : ℕ} → Rank s given b end at → HasHeader s at h ts es → Place s r b end at h → RulesAre given b es r
          → RulesFrom s given b r
      go {at = at} (first f) k p d = record {
        entries = es;
        heads = record { start = at; header = h; statements = ts; gap = p.gap; stands = k; brace = p.brace };
        declares = d;
      }
      go (later n x) k p d = d

  -- What the keys decide, once the header is parsed.
  keys-says : {h : Header} {ts : List Statement} {es : List Entry} (k : HasHeader s at h ts es) (r : Rules) (d : RulesAre given b es r)
      (p : Place s r b end at h) → (o : Outcome Accepted)
      → JudgedSays r (rules_asking given b _ asking d) p.rank (length s) h.length (keys_distinct k) o → BlockSays s given b end at o
  keys-says {h} {ts} {es} k r d p (Ok a) j = record {
    rules = r;
    coded_are = sym j.same_rules;
    block = record {
      gap = rw j.starts p.gap;
      block = subst (λ (i : ℕ). IsBlock s r i a.row a.next) (sym j.starts) (record {
        header = h;
        statements = ts;
        entries = es;
        stands = k;
        brace = p.brace;
        starts = j.starts;
        length_is = j.header_is;
        rules = j.rules;
        ends = rw j.header_is j.ends;
        inside = j.inside;
      });
    };
    from = rules_from r k p d;
  }
  keys-says k r d p (Err e) j = in-keys k d j

  pub block-says : BlockSays s given b end at (block_at s (coded given) b at)
  unfolding block_at
  block-says =
      by_outcome (header_at s at)
      (λ h e. by_outcome (statements_of s at h)
      (λ ts f.
      let es = entries (body_of s h) ts in
      let k : HasHeader s at h ts es =
      record { header = header_sound e; parse = statements_sound s at h f; says = entries_say (body_of s h) ts } in
      by_option (rules_for (coded given) b es)
      (λ g. rw (e, f, g) (no-rules k (λ r d. none_some (sym g ∙ rules_for_complete given b r (keys_distinct k) d))))
      (λ r g.
      let x = rules_for_sound given b (keys_distinct k) g in
      let p = place_of_lem given rank k x.rules x.are in
      rw (e, f, g, sym x.coded_are) (keys-says k x.rules x.are p (judged (coded x.rules) b (length s) at h.length es)
      (judged_says x.rules (rules_asking given b _ asking x.are) p.rank (length s) h.length (keys_distinct k)))))
      (λ x f. rw (e, f) (in-statements (header_sound e) (statements_error s at h f))))
      (λ x e. rw e (in_frame (header_error s at e)))

  -- ---- And it answers what there is

  -- The rules that a block is judged by: there is one first header.
  rules_of_block : {r : Rules} {row : Row} {next : ℕ} (y : SpacedBlock s r end row next) → RulesFrom s given b r → RulesAre given b y.block.entries r
  rules_of_block {r} {row} {next} = go rank
    where
      go : {b : Bool} {end at : ℕ} → Rank s given b end at → (y : SpacedBlock s r end row next) → RulesFrom s given b r
          → RulesAre given b y.block.entries r
      go (first f) y x = subst (λ (es : List Entry). Declares es r) (heads-same x.heads (heads_file y)) x.declares
      go (later n x) y e = e

  -- A block stands where it is judged.
  block-starts : {r : Rules} {row : Row} {next : ℕ} (y : SpacedBlock s r end row next) → RulesAre given b y.block.entries r
      → row.start ≡ at
  block-starts {r} {row} {next} = go rank
    where
      go : {b : Bool} {end at : ℕ} → Rank s given b end at → (y : SpacedBlock s r end row next) → RulesAre given b y.block.entries r
          → row.start ≡ at
      go (later n x) y e = next_unique s (rw e at (spaced_next y)) x
      go (first (at-brace n p)) y d =
          let plain : r.kind ≡ kind_1 =
          ap (λ (x : Rules). x.kind) (plain_declares d (λ edf. p ((heads_proves (heads_file y) n).1 edf))) in
          next_unique s (rw plain at (spaced_next y)) n
      go (first (at_zero n p)) y d = sym (y.gap.end_to_end (edf_declares d ((heads_proves (heads_file y) n).0 p)))

  pub block-complete : {r : Rules} {row : Row} {next : ℕ} → SpacedBlock s r end row next → RulesFrom s given b r
      → block_at s (coded given) b at ≡ Ok (record { row = row; next = next; rules = coded r })
  block-complete {r} {row} {next} y f =
      let d = rules_of_block y f in
      let q = block-starts y d in
      subst (λ (i : ℕ). block_at s (coded given) b i ≡ Ok (record { row = row; next = next; rules = coded r })) q
      (complete_at s given asking y (subst (λ (i : ℕ). Rank s given b end i) (sym q) rank) d)

  pub block-error-complete : {e : Error} → BlockError s (RulesAre given b) at e → block_at s (coded given) b at ≡ Err e
  unfolding block_at
  block-error-complete (in_frame q) = rw (header_error_complete s at q)
  block-error-complete (in-statements {h = h} i q) = rw (header_complete i, statements_error_complete s at h q)
  block-error-complete (no-rules {es = es} k n) =
      by_option (rules_for (coded given) b es)
      (λ g. rw (headed k, parsed k, said k, g))
      (λ r g. let x = rules_for_sound given b (keys_distinct k) g in absurd (n x.rules x.are))
  block-error-complete (in-keys {h = h} {r = r} k d q) =
      rw (headed k, parsed k, said k, rules_for_complete given b r (keys_distinct k) d)
      (key_error_complete r (rules_asking given b _ asking d) (place_of_lem given rank k r d).rank (length s) h.length (keys_distinct k) q)
