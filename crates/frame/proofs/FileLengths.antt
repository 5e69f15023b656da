-- How long a written file is at most: its header and its filling are short.
use mathlib.Core.Path.{◌≡◌, ap}
use mathlib.Core.List.{List, [], ◌∷◌, ◌++◌}
use Prim.Native.Nat.{ℕ, suc, ◌+◌, ◌*◌, ◌≤◌}
use native.Mathlib.Omega.{arith}
use lib.IntN.{pos}
use lib.ListN.{length, length-append, length-replicate, length-take}
use Rattle.scan.specs.Byte.{ascii}
use Rattle.text.specs.Decimal.{decimal}
use Rattle.text.specs.Text.{quoted_text}
use Rattle.text.proofs.Decimals.{decimal-length}
use Rattle.text.proofs.Quoted.{quoted_length}
use Rattle.blocks.specs.IdentityText.{identity_text}
use Rattle.blocks.proofs.IdentityBack.{identity_length}
use Rattle.rendering.specs.Render.{Keyword, keyword, dim_keywords, lines, opening, rendered_header}
use Rattle.rendering.proofs.LineLaws.{line-length, lines-append, opening-length}
use Rattle.rendering.proofs.Padding.{padding_small}
use Rattle.frame.specs.File.{frame_dims, file_data, keywords_of, file_of, FitsFile}
use Rattle.frame.specs.declared.Frame.{Frame}
use Rattle.frame.proofs.Allowed.{Writes, written_says}
use Rattle.frame.proofs.Codes.{type_coded, order_coded}
use Rattle.frame.proofs.PixelLengths.{data_length}

-- ---- Lines

cons_length : (k : Keyword) (ks : List Keyword) → length (lines (k ∷ ks)) ≡ length k.key + length k.value + 7 + length (lines ks)
unfolding lines
cons_length k ks = rw length-append (omega (arith, line-length k.key k.value))

append-length : (ks js : List Keyword) → length (lines (ks ++ js)) ≡ length (lines ks) + length (lines js)
append-length ks js = rw lines-append (length-append (lines ks) (lines js))

-- A line `Dim_k = d ;` has at most 51 bytes.
dims_most : (k : ℕ) (ds : List ℕ) → length (lines (dim_keywords k ds)) ≤ 51 * length ds
unfolding lines dim_keywords
dims_most k [] = omega arith
dims_most k (d ∷ ds) =
    omega (
      arith,
      cons_length (record { key = ascii "Dim_" ++ decimal (pos k); value = decimal (pos d) }) (dim_keywords (suc k) ds),
      decimal-length (pos k),
      decimal-length (pos d),
      dims_most (suc k) ds,
    )

-- ---- The file

module _ {f : Frame} {title pixels s : List ℕ} (w : Writes f title pixels s) where
  identity_most_lem : length (identity_text f.sequence f.instance f.memory) ≤ 53
  identity_most_lem = let m = w.allowed.memory in rw m.is (identity_length f.sequence f.instance m.number)

  -- The keywords after the Dims.
  abbrev last : List Keyword
  last = keyword (ascii "DataRasterConfiguration") (decimal (pos f.configuration)) ∷ keyword (ascii "Title") (quoted_text title) ∷ []

  last_most : length (lines last) ≤ 2110
  unfolding lines
  last_most = simp cons_length (omega (arith, decimal-length (pos f.configuration), quoted_length title, w.short))

  lines_most : length (lines (keywords_of f title pixels)) ≤ 2450
  unfolding keywords_of
  lines_most =
      simp cons_length (omega (
        arith,
        identity_most_lem,
        decimal-length (pos (length (file_data f pixels))),
        (order_coded f.byteorder w.allowed.byteorder).short,
        (type_coded f.datatype w.allowed.datatype).short,
        append-length (dim_keywords 1 (frame_dims f)) last,
        dims_most 1 (frame_dims f),
        length-take f.n (f.dim1 ∷ f.dim2 ∷ f.dim3 ∷ []),
        last_most,
      ))

  header_most : length (rendered_header (keywords_of f title pixels)) ≤ 2968
  unfolding rendered_header
  header_most =
      simp (length-append, length-replicate)
      (omega (arith, opening-length (keywords_of f title pixels), lines_most, padding_small (length (opening (keywords_of f title pixels)) + 4)))

pub fits_file : (f : Frame) (title pixels : List ℕ) → FitsFile f title pixels
unfolding file_of
fits_file f title pixels file e =
    let w = written_says f title pixels e in
    omega (
      arith,
      ap length w.is,
      length-append (rendered_header (keywords_of f title pixels)) (file_data f pixels),
      header_most w,
      data_length f pixels w.whole,
      padding_small (length pixels),
    )
