-- The words in which Main states its theorems, and the laws by which it proves them, each with the place where it stands.
pub use mathlib.Core.Path.{◌≡◌, refl, ap, ◌∙◌}
pub use mathlib.Core.Logic.{◌↔◌}
pub use mathlib.Core.List.{List, [], ◌∷◌, ◌++◌, Memᴰ as List-as-Memᴰ}
pub use Prim.Native.Nat.{ℕ, ◌+◌, ◌*◌, ◌≤◌, ◌<◌}
pub use lib.IntN.{pos}
pub use lib.ListN.{length, take, drop}
-- ---- Answers of the calls
pub use Rattle.std.specs.Prelude.{Ok, Err}
pub use Rattle.scan.specs.Outcome.{Outcome}
pub use Rattle.description.specs.declared.Description.{Description}
pub use Rattle.raster.specs.declared.Pixel.{Pixel}
pub use Rattle.scan.specs.declared.Error.{Error}
-- ---- Definitions
pub use Rattle.scan.specs.Byte.{ascii}
pub use Rattle.text.specs.Decimal.{decimal}
pub use Rattle.text.specs.Text.{escaped, unescaped}
pub use Rattle.keyword.specs.Keyword.{text_in}
pub use Rattle.blocks.specs.Cases.{FileError}
pub use Rattle.header.specs.Grammar.{Parse}
pub use Rattle.header.specs.declared.Header.{Header}
pub use Rattle.header.specs.declared.Statement.{Statement}
pub use Rattle.blocks.specs.Grammar.{Partition, Block, Cut, BlockHeader}
pub use Rattle.blocks.specs.declared.Row.{Row}
pub use Rattle.blocks.proofs.Covered.{Covered}
pub use Rattle.raster.specs.Bytes.{number_of}
pub use Rattle.raster.specs.Pixels.{pixel_of}
pub use Rattle.frame.specs.File.{frame_dims, frame_type, written_file}
pub use Rattle.frame.specs.declared.Frame.{Frame}
pub use Rattle.frame.proofs.Allowed.{Writes}
pub use Rattle.readback.specs.Described.{description_for}
pub use Rattle.readback.proofs.Pixels.{Inside, position_in, pixel}
pub use Rattle.readback.proofs.Written.{Fits, row_of}
pub use Rattle.columns.specs.Columns.{array_columns}
pub use Rattle.listing.specs.Listing.{line, row_columns, count_line}
pub use Rattle.edf.specs.Calls.{Puts, Open, Text, Escape, Unescape, Describe, ReadArray, ReadPixel, Write, Lists}
pub use Rattle.edf.specs.Opening.{Allowed}
-- ---- Laws
pub use Rattle.blocks.proofs.Main as blocks
pub use Rattle.edf.proofs.CallLaws as laws
pub use Rattle.frame.proofs.Allowed.{written_says, written_is}
pub use Rattle.readback.proofs.Main as writer
pub use Rattle.listing.proofs.OneBlock.{one_block_listing}
pub use Rattle.edf.proofs.CallLaws.{with_room, wrote, unescaped_back}
pub use Rattle.edf.proofs.CallLaws.{opens_rows, file_small}
pub use Rattle.edf.proofs.OpeningLaws.{promised}
