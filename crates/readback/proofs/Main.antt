-- The theorems about the writer, stated: a rendered header parses back, and what is written opens, describes, reads and delivers as
-- what it was written from. The proofs are in the files beside this one.
use Rattle.std.specs.Prelude.{Ok}
use mathlib.Core.Path.{◌≡◌}
use mathlib.Core.List.{List, [], ◌∷◌, ◌++◌}
use Prim.Native.Nat.{ℕ, ◌+◌}
use native.Mathlib.Omega.{arith}
use borrow.Author.Tests.{lt-ltb}
use lib.ListN.{length, get_or}
use lib.Seq.{drop_at, take-length}
use Rattle.scan.specs.Byte.{ascii}
use Rattle.blocks.specs.Grammar.{Partition}
use Rattle.blocks.specs.Opening.{opened}
use Rattle.blocks.proofs.Complete.{opened_complete}
use Rattle.keyword.specs.Keyword.{text_in}
use Rattle.raster.specs.Bytes.{number_of}
use Rattle.raster.specs.Pixels.{pixel_of}
use Rattle.raster.specs.Strided.{Octets}
use Rattle.description.specs.Describe.{description_of}
use Rattle.array.specs.Delivery.{data_of, array_of, is_order, array_in, is_index, pixel_in}
use Rattle.frame.specs.File.{frame_dims, frame_type, file_data, keywords_of, file_of, written_file}
use Rattle.rendering.specs.Render.{Keyword, rendered_header}
use Rattle.frame.specs.declared.Frame.{Frame}
use Rattle.frame.proofs.Allowed.{Writes, written_says}
use Rattle.readback.specs.Described.{description_for}
use Rattle.readback.proofs.Described.{description_in_lem, description_is, title_is}
use Rattle.readback.proofs.Pixels.{Inside, position_in, pixel, pixel_is, delivered_is}
use Rattle.rendering.proofs.Rendered.{MayRender, ParsesBack, parses_back}
use Rattle.readback.proofs.Viewed.{view_with, written_view}
use Rattle.readback.proofs.Written.{Fits, row_of, partition}

-- ---- Any keywords

-- A header of keywords that may stand in one parses back, whatever follows it.
pub renders : (ks : List Keyword) (rest : List ℕ) → MayRender ks → ParsesBack ks (rendered_header ks ++ rest)
renders = parses_back

-- ---- The round trip

-- The block's array is the frame's, with the data that was written.
data_is : {f : Frame} {title pixels s : List ℕ} → Writes f title pixels s
    → data_of s (view_with (row_of f title pixels) (keywords_of f title pixels)) ≡ file_data f pixels
unfolding file_of
data_is {f} {title} {pixels} w =
    let start : length (rendered_header (keywords_of f title pixels)) ≡ 0 + length (rendered_header (keywords_of f title pixels)) = omega arith in
    rw (w.is, drop_at (rendered_header (keywords_of f title pixels)) (file_data f pixels) _ start) (take-length (file_data f pixels))

array_is : {f : Frame} {title pixels s : List ℕ} → Writes f title pixels s → Fits f
    → array_of s 0 ≡ Ok (record { description = description_for f; bytes = file_data f pixels })
unfolding array_of
array_is w fits = rw (written_view w fits, description_in_lem w, data_is w)

-- For every frame, title and pixels that are written: all types, one to three dimensions, every configuration.
module _ (f : Frame) (title pixels : List ℕ) {s : List ℕ} (fits : Fits f) (e : written_file f title pixels ≡ Ok s) where
  -- It has a partition of one block: the frame's identity, and the length of the data with its filling,
  pub one_block : Partition s (row_of f title pixels ∷ [])
  one_block = partition (written_says f title pixels e) fits

  -- so it opens with that one row.
  pub opens : opened s ≡ Ok (row_of f title pixels ∷ [])
  opens = opened_complete s one_block

  -- It describes as the frame,
  pub describes : description_of s 0 ≡ Ok (description_for f)
  describes = description_is (written_says f title pixels e) fits

  -- its title is the title,
  pub reads : text_in s 0 (ascii "Title") ≡ Ok title
  reads = title_is (written_says f title pixels e) fits

  module _ (octets : Octets pixels) where
    -- it delivers the pixels,
    pub delivers : array_in s 0 1 ≡ Ok pixels
    unfolding array_in is_order
    delivers = let w = written_says f title pixels e in rw (array_is w fits, delivered_is w octets)

    -- and each by its index is the value of its bytes.
    pub samples : (i1 i2 i3 : ℕ) → Inside (frame_dims f) i1 i2 i3
        → pixel_in s 0 i1 i2 i3
        ≡ Ok (pixel_of (frame_type f).class (frame_type f).width (number_of 1 (pixel f pixels (position_in (frame_dims f) i1 i2 i3))))
    unfolding pixel_in is_index
    samples i1 i2 i3 h =
        let w = written_says f title pixels e in
        rw (
          array_is w fits,
          lt-ltb i1 (get_or (frame_dims f) 0 1) h.first,
          lt-ltb i2 (get_or (frame_dims f) 1 1) h.second,
          lt-ltb i3 (get_or (frame_dims f) 2 1) h.third,
          pixel_is w octets i1 i2 i3 h,
        )
