-- The first header of a file, behind whitespace or a start pattern: its brace is the first byte that is no whitespace, and what it says
-- from there decides the kind before the block is judged.
use mathlib.Core.Path.{◌≡◌, refl, sym, subst, ◌∙◌}
use mathlib.Core.Bool.{true}
use mathlib.Core.List.{List}
use mathlib.Core.Logic.{◌↔◌}
use Prim.Native.Nat.{ℕ, suc, ◌+◌, ◌-◌, ◌<◌}
use native.Mathlib.Omega.{arith}
use Rattle.scan.specs.Byte.{byte}
use Rattle.scan.proofs.Cases.{by_test, by_outcome, ok-failed}
use Rattle.scan.proofs.Decides.{Decides, fails, decided, refuted, passes, rejects, decides_by}
use Rattle.scan.proofs.Finds.{by_finds}
use Rattle.text.specs.Whitespace.{whitespace, visible_from}
use Rattle.header.specs.Cases.{Statements}
use Rattle.header.specs.Entries.{entries}
use Rattle.header.specs.Entry.{Entry, body_of}
use Rattle.header.specs.Frame.{header_at}
use Rattle.header.specs.Grammar.{StartPattern, IsHeader}
use Rattle.header.specs.declared.Header.{Header}
use Rattle.header.specs.declared.Statement.{Statement}
use Rattle.header.proofs.FrameLaws.{header_sound, header_complete, header_inside, header_order}
use Rattle.header.proofs.SayLaws.{entries_say, entries_only}
use Rattle.header.proofs.StatementLaws.{finds-statements, statements_are}
use Rattle.header.proofs.Unambiguous.{header_unique}
use Rattle.blocks.specs.Cases.{NextAt, ProvesKind2, FirstAt, at-brace, at_zero}
use Rattle.blocks.specs.Grammar.{HasHeader, HeadsFile}
use Rattle.blocks.specs.Judging.{proves_kind2}
use Rattle.blocks.specs.Opening.{first_start}
use Rattle.blocks.specs.Places.{Kind, kind_1, kind_2, StartsWithEdfKey}
use Rattle.blocks.proofs.Coded.{kinds_differ, by_kind}
use Rattle.blocks.proofs.Gaps.{no_gap, next_unique, visible-next, pattern_blank, start_brace, brace_visible, start_bare}
use Rattle.blocks.proofs.PlaceLaws.{starts_decides}
use Rattle.blocks.proofs.Said.{said_same}

-- ---- A header from its brace

-- The same header without what its start pattern has before the brace.
abbrev pub from_brace : ℕ → Header → Header
from_brace start h = record { left = h.left; right = h.right; length = start + h.length - h.left }

module _ {s : List ℕ} where
  pub brace_header : {start : ℕ} {h : Header} → IsHeader s start h → IsHeader s h.left (from_brace start h)
  brace_header {start} {h} x =
      let n : start + h.length ≡ h.left + (start + h.length - h.left) = omega (arith, header_inside x, header_order x) in
      record {
        opening = StartPattern.bare (start_brace x.opening);
        order = x.order;
        body = x.body;
        closing = rw n at x.closing;
        short = omega (arith, x.short, header_order x);
      }

  -- It says the same.
  pub brace_has : {start : ℕ} {h : Header} {ts : List Statement} {es : List Entry} → HasHeader s start h ts es
      → HasHeader s h.left (from_brace start h) ts es
  brace_has x = record {
    header = brace_header x.header;
    parse = record { shape = x.parse.shape; short = x.parse.short; distinct = x.parse.distinct };
    says = x.says;
  }

  -- ---- The first header

  -- Its brace is the first byte that is no whitespace,
  pub brace_next : {kind : Kind} {es : List Entry} (x : HeadsFile s kind es) → NextAt s kind_1 0 x.header.left
  brace_next {kind} x = record {
    gap = record { order = omega arith; only_whitespace = λ k l u. by_kind kind (λ q. plain k u q) (λ q. pattern k u q); end_to_end = λ q. absurd (kinds_differ q) };
    visible = λ q. brace_visible x.stands.header.opening;
  }
    where
      plain : (k : ℕ) → k < x.header.left → kind ≡ kind_1 → whitespace (byte s k) ≡ true
      plain k u q = x.gap.only_whitespace k (omega arith) (omega (arith, x.brace q))

      pattern : (k : ℕ) → k < x.header.left → kind ≡ kind_2 → whitespace (byte s k) ≡ true
      pattern k u q = pattern_blank x.stands.header.opening k (omega (arith, x.gap.end_to_end q)) u

  -- and it stands where a block of its kind is looked for.
  pub heads-next : {kind : Kind} {es : List Entry} (x : HeadsFile s kind es) → NextAt s kind 0 x.start
  heads-next x = record { gap = x.gap; visible = λ q. rw (x.brace q) at (brace_visible x.stands.header.opening) }

  -- It says one thing, whatever the kind is thought to be.
  pub heads-same : {j k : Kind} {es ds : List Entry} → HeadsFile s j es → HeadsFile s k ds → es ≡ ds
  heads-same x y =
      let q = next_unique s (brace_next x) (brace_next y) in
      said_same (subst (λ (i : ℕ). HasHeader s i (from_brace x.start x.header) x.statements _) q (brace_has x.stands)) (brace_has y.stands)

  module _ {h : Header} {ts : List Statement} {es : List Entry} where
    -- A header that stands at 0 is the first of a file of kind 2, one at the first byte that is no whitespace the first of kind 1.
    pub heads_zero : HasHeader s 0 h ts es → HeadsFile s kind_2 es
    heads_zero k = record {
      start = 0;
      header = h;
      statements = ts;
      gap = no_gap 0;
      stands = k;
      brace = λ q. absurd (kinds_differ (sym q));
    }

    pub heads_brace : {at : ℕ} → NextAt s kind_1 0 at → HasHeader s at h ts es → HeadsFile s kind_1 es
    heads_brace {at} n k = record {
      start = at;
      header = h;
      statements = ts;
      gap = n.gap;
      stands = k;
      brace = λ q. start_bare k.header.opening (n.visible refl);
    }

  -- ---- Whether it proves kind 2

  -- A header whose statements are well formed, and what it says: there is one at most.
  pub proved_says : {at : ℕ} {h : Header} (p : ProvesKind2 s at) → IsHeader s at h → (ts : List Statement) → Statements s h ts
      → p.entries ≡ entries (body_of s h) ts
  proved_says {at} {h} p i ts c =
      let e : p.header ≡ h = header_unique p.stands i in
      let same = sym (statements_are (body_of s h) (suc h.left) p.statements (rw e at p.shape)) ∙ statements_are (body_of s h) (suc h.left) ts c in
      let q : p.statements ≡ ts = cc in
      entries_only (body_of s p.header) p.says ∙ rw (e, q)

  pub proves_decides : (at : ℕ) → Decides (ProvesKind2 s at) (proves_kind2 s at)
  unfolding proves_kind2
  proves_decides at =
      by_outcome (header_at s at)
      (λ h e. let body = body_of s h in
      by_finds (finds-statements body (suc h.left))
      (λ ts f c. rw (e, f)
      (decides_by
      (λ edf. record { header = h; statements = ts; entries = entries body ts; stands = header_sound e; shape = c; says = entries_say body ts; edf = edf })
      (λ p. subst StartsWithEdfKey (proved_says p (header_sound e) ts c) p.edf)
      (starts_decides (entries body ts))))
      (λ f n. rw (e, f) (fails (λ p. n p.statements (rw (header_unique p.stands (header_sound e)) at p.shape)))))
      (λ x e. rw e (fails (λ p. ok-failed (sym (header_complete p.stands) ∙ e))))

  -- It does exactly if what it says starts with an EDF_ key.
  pub heads_proves : {kind : Kind} {es : List Entry} → HeadsFile s kind es → {at : ℕ} → NextAt s kind_1 0 at → ProvesKind2 s at ↔ StartsWithEdfKey es
  heads_proves {es = es} x {at} n =
      let q : x.header.left ≡ at = next_unique s (brace_next x) n in
      let h = from_brace x.start x.header in
      let k = brace_has x.stands in
      let i = subst (λ (j : ℕ). IsHeader s j h) q k.header in (
        λ p. subst StartsWithEdfKey (proved_says p i x.statements k.parse.shape ∙ sym (entries_only (body_of s h) k.says)) p.edf,
        λ edf. record { header = h; statements = x.statements; entries = es; stands = i; shape = k.parse.shape; says = k.says; edf = edf },
      )

  -- ---- Where the first block is judged

  pub first_at : FirstAt s (first_start s)
  unfolding first_start
  first_at =
      let at = visible_from s 0 in
      let n = visible-next s 0 (omega arith) in
      by_test (proves_kind2 s at)
      (λ e. rw e (at_zero n (decided (proves_decides at) e)))
      (λ e. rw e (at-brace n (refuted (proves_decides at) e)))

  pub first_start_lem : {at : ℕ} → FirstAt s at → first_start s ≡ at
  unfolding first_start
  first_start_lem (at-brace n p) =
      let q = next_unique s (visible-next s 0 (omega arith)) n in
      rw (q, rejects (proves_decides _) p)
  first_start_lem (at_zero n p) =
      let q = next_unique s (visible-next s 0 (omega arith)) n in
      rw (q, passes (proves_decides _) p)
