-- The checks of the writer, and how long its file is.
use Rattle.std.specs.Prelude.{Bool, ◌&&◌, List, ℕ, ◌+◌, ◌*◌, eqb, leb, length, Ok, Err}
use Rattle.scan.specs.Outcome.{Outcome, require, ◌>>◌}
use Rattle.text.specs.Text.{every, text_byte, short_text}
use Rattle.raster.specs.Position.{product}
use Rattle.rendering.specs.Render.{padding}
use Rattle.frame.specs.File.{frame_dims, frame_type, frame_allowed}
use Rattle.blocks.specs.Limits.{file_limit}
use Rattle.frame.specs.declared.Frame.{Frame}

-- ---- The checks, in their order

-- The frame, and the length of its pixels.
abbrev pub frame_fits : Frame → List ℕ → Bool
frame_fits f pixels = frame_allowed f && eqb (length pixels) (product (frame_dims f) * (frame_type f).width)

-- The title's bytes too.
abbrev pub arguments_allowed : Frame → List ℕ → List ℕ → Bool
arguments_allowed f title pixels = frame_fits f pixels && every text_byte title

-- How long the data is, with its filling: it and the title in the limit of a file.
unfoldable pub size_of : Frame → List ℕ → List ℕ → Outcome ℕ
size_of f title pixels =
    let size = length pixels + padding (length pixels) in
    require (arguments_allowed f title pixels) 24 0 >> (require (leb size file_limit && leb (length title) file_limit) 24 0 >> Ok size)

-- A file whose title is short,
unfoldable pub short_titled : List ℕ → List ℕ → Outcome (List ℕ)
short_titled title file = short_text title >> Ok file

-- and that is in the limit.
unfoldable pub limited : List ℕ → List ℕ → Outcome (List ℕ)
limited title file = require (leb (length file) file_limit) 24 0 >> short_titled title file

-- ---- How long it is

unfoldable pub length_of : Outcome (List ℕ) → Outcome ℕ
length_of (Ok file) = Ok (length file)
length_of (Err e) = Err e
