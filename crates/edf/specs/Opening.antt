-- What opening a file into a lent table promises, stated by the grammar of a file: nothing here says how a file is read.
use Rattle.std.specs.Prelude.{◌≡◌, ◌↔◌, ℕ, ◌≤◌, ◌<◌, length, drop, Ok, Err}
use Rattle.scan.specs.Outcome.{error_at, Outcome}
use mathlib.Core.List.{List, [], ◌++◌, Memᴰ}
use Rattle.scan.specs.declared.Error.{Error}
use Rattle.header.specs.Grammar.{Parse}
use Rattle.header.specs.declared.Header.{Header}
use Rattle.header.specs.declared.Statement.{Statement}
use Rattle.blocks.specs.Cases.{FileError}
use Rattle.blocks.specs.Grammar.{Block, Cut, BlockHeader}
use Rattle.blocks.specs.Limits.{file_limit, block_limit}
use Rattle.blocks.specs.declared.Row.{Row}

-- Neither 1, "file over 1,073,741,824 bytes", nor 2, "table under 256 rows", is due of a table of so many rows.
pub record Allowed (s : List ℕ) (room : ℕ) : Type 0 where
  pub file : length s ≤ file_limit
  pub table : block_limit ≤ room

-- Demand 3, of a call that opens the file s into a table of `room` rows. `Answers n`: it answers that there are n blocks. `Fails e`: it
-- answers the error e. `Holds rows`: its table then holds these rows, and all later rows are as they were.
pub record Opens (s : List ℕ) (room : ℕ) (Answers : ℕ → Type 0) (Fails : Error → Type 0) (Holds : List Row → Type 0) : Type 0 where
  -- A file is accepted exactly if it has a cut.
  pub accepted : Allowed s room → ((n : ℕ) × Answers n) ↔ ((blocks : List Block) × Cut s blocks)
  -- "Opening answers the cut's block count and gives a table row for each of its blocks, in order .. Rows past the last block keep what
  -- they held."
  pub count : Allowed s room → (blocks : List Block) → Cut s blocks → Answers (length blocks)
  pub rows : Allowed s room → (blocks : List Block) (cut : Cut s blocks) → Holds cut.rows
  -- Any two cuts of a file are equal,
  pub one_cut : (blocks others : List Block) → Cut s blocks → Cut s others → blocks ≡ others
  -- with every field of their rows.
  pub one_table : (blocks others : List Block) (cut : Cut s blocks) (other : Cut s others) → cut.rows ≡ other.rows
  -- Every header of a cut has a parse, and any two parses of a header are equal.
  pub parsed : (blocks : List Block) → Cut s blocks → (b : Block) → Memᴰ b blocks → BlockHeader s b
  pub one_parse : (h : Header) (ts us : List Statement) → Parse s h ts → Parse s h us → ts ≡ us
  -- Each error is given exactly in its case: 1, then 2, then those of the blocks.
  pub over_limit : Fails (error_at 1 0) ↔ (file_limit < length s)
  pub few_rows : Fails (error_at 2 0) ↔ ((length s ≤ file_limit) × (room < block_limit))
  pub errors : Allowed s room → (e : Error) → Fails e ↔ FileError s e
  -- "Lent memory is untouched in every refusal."
  pub untouched : (e : Error) → Fails e → Holds []

-- The table `after` holds the rows, and behind them what it held before.
abbrev pub HoldsRows : List Row → List Row → List Row → Type 0
HoldsRows before after rows = after ≡ rows ++ drop (length rows) before

-- Opening the file s into a table that held `before`, whatever that is, answers r and leaves `after` in the table.
abbrev pub OpensAs : List ℕ → List Row → Outcome ℕ → List Row → Type 0
OpensAs s before r after = Opens s (length before) (λ n. r ≡ Ok n) (λ e. r ≡ Err e) (HoldsRows before after)
