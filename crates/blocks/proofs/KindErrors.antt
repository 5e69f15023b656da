-- 11 "in kind 2 only": in a file of kind 1 a header may have any length.
use mathlib.Core.Path.{◌≡◌, sym, subst, ◌∙◌}
use mathlib.Core.List.{List}
use Prim.Native.Nat.{ℕ}
use native.Mathlib.Omega.{arith}
use Rattle.scan.specs.declared.Error.{Error}
use Rattle.header.specs.Cases.{no_start, bad-byte, no_end, malformed, too_long, key_twice}
use Rattle.header.specs.Entry.{Entry}
use Rattle.header.specs.declared.Header.{Header}
use Rattle.header.specs.declared.Statement.{Statement}
use Rattle.blocks.specs.Cases.{LengthKept, KeyError, rule-broken, file_name, bad-length, past_end, BlockError, in_frame, in-statements, no-rules, in-keys, FirstAt, at-brace, at_zero, FileError, first_block, later-block, identity-twice, too_many, wrong-count}
use Rattle.blocks.specs.Grammar.{Rules, plain_rules, Declares, HasHeader, HeadsFile}
use Rattle.blocks.specs.Places.{kind_1, kind_2, StartsWithEdfKey}
use Rattle.blocks.specs.Values.{LengthOrAbsent}
use Rattle.blocks.proofs.Coded.{by_kind, kinds_differ, none_counts}
use Rattle.blocks.proofs.Declarations.{declares_edf, edf_declares, plain_declares}
use Rattle.blocks.proofs.FirstLaws.{heads_proves, heads_zero, heads_brace}

pub any-length : (es : List Entry) (header : ℕ) → LengthKept (plain_rules kind_1) es header
any-length es header = record { multiple = (header, omega arith); header_size = LengthOrAbsent.absent (λ v c. none_counts c) }

-- A header whose length is refused, and the rules by which it is.
record Refused (s : List ℕ) (RulesAre : List Entry → Rules → Type 0) (at : ℕ) : Type 0 where
  header : Header
  statements : List Statement
  entries : List Entry
  rules : Rules
  stands : HasHeader s at header statements entries
  are : RulesAre entries rules
  length : LengthKept rules entries header.length → ⊥

key-length : {r : Rules} {start end header : ℕ} {es : List Entry} {e : Error} → KeyError r start end header es e → e.code ≡ 11
    → LengthKept r es header → ⊥
key-length (rule-broken n) c k = omega arith
key-length (file_name q f) c k = omega arith
key-length (bad-length q f l) c k = l k
key-length (past_end q f l u) c k = omega arith

module _ {s : List ℕ} where
  block_length : {RulesAre : List Entry → Rules → Type 0} {at : ℕ} {e : Error} → BlockError s RulesAre at e → e.code ≡ 11 → Refused s RulesAre at
  block_length (in_frame (no_start n)) c = absurd (omega arith)
  block_length (in_frame (bad-byte b)) c = absurd (omega arith)
  block_length (in_frame (no_end n)) c = absurd (omega arith)
  block_length (in-statements i (malformed b)) c = absurd (omega arith)
  block_length (in-statements i (too_long l)) c = absurd (omega arith)
  block_length (in-statements i (key_twice k)) c = absurd (omega arith)
  block_length (no-rules k n) c = absurd (omega arith)
  block_length (in-keys {h = h} {ts = ts} {es = es} {r = r} k d q) c =
      record { header = h; statements = ts; entries = es; rules = r; stands = k; are = d; length = key-length q c }

-- Rules by which a length is refused are those of a file of kind 2.
refused_two : {r : Rules} {es ds : List Entry} {header : ℕ} → Declares ds r → (LengthKept r es header → ⊥) → r.kind ≡ kind_2
refused_two {r} {es} {header = header} d n =
    by_kind r.kind
    (λ one.
    let q = plain_declares d (λ edf. kinds_differ (sym one ∙ edf_declares d edf)) in
    absurd (n (subst (λ (x : Rules). LengthKept x es header) (sym q) (any-length es header))))
    (λ two. two)

-- The first header of a file of kind 2.
pub record HeadsKind2 (s : List ℕ) : Type 0 where
  pub entries : List Entry
  pub heads : HeadsFile s kind_2 entries
  pub edf : StartsWithEdfKey entries

pub length_error : {s : List ℕ} {e : Error} → FileError s e → e.code ≡ 11 → HeadsKind2 s
length_error {s} (first_block x q) c = go x (block_length q c)
  where
    go : {at : ℕ} → FirstAt s at → Refused s Declares at → HeadsKind2 s
    go (at-brace n p) b =
        absurd (p ((heads_proves (heads_brace n b.stands) n).1 (declares_edf b.are (refused_two b.are b.length))))
    go (at_zero n p) b =
        record { entries = b.entries; heads = heads_zero b.stands; edf = declares_edf b.are (refused_two b.are b.length) }
length_error {s} (later-block {r = r} p few x n q) c =
    let f = p.first_header in
    let b = block_length q c in
    let two : r.kind ≡ kind_2 = refused_two f.declares (subst (λ (y : Rules). LengthKept y b.entries b.header.length → ⊥) b.are b.length) in
    record { entries = f.entries; heads = subst (λ k. HeadsFile s k f.entries) two f.heads; edf = declares_edf f.declares two }
length_error (identity-twice p few b q) c = absurd (omega arith)
length_error (too_many p full x n) c = absurd (omega arith)
length_error (wrong-count p g n) c = absurd (omega arith)
