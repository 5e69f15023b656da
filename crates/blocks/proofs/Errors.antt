-- Nothing is invented: the position of an error lies in the file or is its length, and its code is one of the table.
use mathlib.Core.List.{List}
use Prim.Native.Nat.{ℕ, ◌≤◌}
use native.Mathlib.Omega.{arith}
use lib.ListN.{length}
use Rattle.scan.specs.declared.Error.{Error}
use Rattle.header.specs.Cases.{FrameError, no_start, bad-byte, no_end, StatementsError, malformed, too_long, key_twice}
use Rattle.header.specs.Entry.{Entry}
use Rattle.header.specs.declared.Header.{Header}
use Rattle.blocks.specs.Cases.{KeyError, rule-broken, file_name, bad-length, past_end, BlockError, in_frame, in-statements, no-rules, in-keys, FirstAt, at-brace, at_zero, FileError, first_block, later-block, identity-twice, too_many, wrong-count}
use Rattle.blocks.specs.Grammar.{Rules}
use Rattle.blocks.proofs.BlockPlaces.{block_inside}
use Rattle.blocks.proofs.Gaps.{next-inside}
use Rattle.blocks.proofs.Sound.{passed_inside}

pub record Bounded (s : List ℕ) (e : Error) : Type 0 where
  pub position : e.position ≤ length s
  pub least : 3 ≤ e.code
  pub most : e.code ≤ 15

module _ {s : List ℕ} where
  module _ (start : ℕ) (inside : start ≤ length s) where
    frame_bounded : {e : Error} → FrameError s start e → Bounded s e
    frame_bounded (no_start n) = omega arith
    frame_bounded (bad-byte b) = omega (arith, b.end.inside)
    frame_bounded (no_end n) = omega arith

    statements_bounded : {h : Header} {e : Error} → StatementsError s h start e → Bounded s e
    statements_bounded (malformed n) = omega arith
    statements_bounded (too_long l) = omega arith
    statements_bounded (key_twice k) = omega arith

    keys_bounded : {r : Rules} {end header : ℕ} {es : List Entry} {e : Error} → KeyError r start end header es e → Bounded s e
    keys_bounded (rule-broken n) = omega arith
    keys_bounded (file_name q f) = omega arith
    keys_bounded (bad-length q f l) = omega arith
    keys_bounded (past_end q f l u) = omega arith

    block_bounded : {RulesAre : List Entry → Rules → Type 0} {e : Error} → BlockError s RulesAre start e → Bounded s e
    block_bounded (in_frame q) = frame_bounded q
    block_bounded (in-statements i q) = statements_bounded q
    block_bounded (no-rules k n) = omega arith
    block_bounded (in-keys k d q) = keys_bounded q

  first_inside : {at : ℕ} → FirstAt s at → at ≤ length s
  first_inside (at-brace n p) = next-inside s (omega arith) n
  first_inside (at_zero n p) = omega arith

  pub error_bounded : {e : Error} → FileError s e → Bounded s e
  error_bounded (first_block x q) = block_bounded _ (first_inside x) q
  error_bounded (later-block p few x n q) = block_bounded _ (next-inside s (passed_inside p) x) q
  error_bounded (identity-twice p few b q) = omega (arith, block_inside b.block)
  error_bounded (too_many p full x n) = omega (arith, next-inside s (passed_inside p) x)
  error_bounded (wrong-count p g n) = omega arith
