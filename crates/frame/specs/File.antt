-- The file that the writer makes, with errors 24 and 25.
use Rattle.std.specs.Prelude.{◌≡◌, Bool, false, ◌&&◌, List, [], ◌∷◌, ◌++◌, ℕ, ◌+◌, ◌-◌, ◌*◌, ◌≤◌, eqb, leb, ℤ, pos, negsuc, length, take, get_or, Ok}
use Rattle.scan.specs.Outcome.{Outcome, require, ◌>>◌}
use Rattle.scan.specs.Byte.{ascii, bytes_at}
use Rattle.text.specs.Decimal.{decimal}
use Rattle.text.specs.Text.{every, text_byte, short_text, quoted_text}
use Rattle.blocks.specs.IdentityText.{identity_text}
use Rattle.raster.specs.Axis.{configurations, order_of}
use Rattle.raster.specs.Bytes.{number_of, bytes_of, joined}
use Rattle.raster.specs.Position.{product, index_at, linear_position}
use Rattle.raster.specs.Types.{DataType, type_of, order_words}
use Rattle.array.specs.Delivery.{is_order}
use Rattle.rendering.specs.Render.{Keyword, dim_keywords, rendered_header, filled}
use Rattle.blocks.specs.Limits.{file_limit}
use Rattle.description.specs.Limits.{dim_limit}
use Rattle.frame.specs.Limits.{header_room}
use Rattle.frame.specs.declared.Frame.{Frame}

-- "Dims past N are unread."
abbrev pub frame_dims : Frame → List ℕ
frame_dims f = take f.n (f.dim1 ∷ f.dim2 ∷ f.dim3 ∷ [])

abbrev pub frame_type : Frame → DataType
frame_type f = type_of f.datatype

-- ---- The data

-- "The writer's pixels come in configuration 1, high byte first": element p of them, in the order asked for.
unfoldable pub pixel_bytes : Frame → List ℕ → ℕ → List ℕ
pixel_bytes f pixels p =
    let w = (frame_type f).width in
    bytes_of f.byteorder w (number_of 1 (bytes_at pixels (record { offset = p * w; length = w })))

-- The pixels as the configuration stores them: at each stored position the element whose index that is.
unfoldable pub stored_pixels : Frame → List ℕ → List ℕ
stored_pixels f pixels =
    let order = order_of f.n f.configuration in
    joined (product (frame_dims f))
    (λ (p : ℕ). pixel_bytes f pixels (linear_position (frame_dims f) (index_at (frame_dims f) order p)))

-- The data of the file, filled.
unfoldable pub file_data : Frame → List ℕ → List ℕ
file_data f pixels = filled (stored_pixels f pixels)

-- ---- The header

-- "EDF_DataBlockID, EDF_BinarySize, ByteOrder, DataType, Dim_1 to Dim_N, DataRasterConfiguration, Title"; "EDF_BinarySize is
-- that length", that of the data with its filling.
unfoldable pub keywords_of : Frame → List ℕ → List ℕ → List Keyword
keywords_of f title pixels =
    record { key = ascii "EDF_DataBlockID"; value = identity_text f.sequence f.instance f.memory }
    ∷ record { key = ascii "EDF_BinarySize"; value = decimal (pos (length (file_data f pixels))) }
    ∷ record { key = ascii "ByteOrder"; value = get_or order_words (f.byteorder - 1) [] }
    ∷ record { key = ascii "DataType"; value = (frame_type f).word }
    ∷ dim_keywords 1 (frame_dims f)
    ++ (record { key = ascii "DataRasterConfiguration"; value = decimal (pos f.configuration) }
    ∷ record { key = ascii "Title"; value = quoted_text title } ∷ [])

-- The whole file.
unfoldable pub file_of : Frame → List ℕ → List ℕ → List ℕ
file_of f title pixels = rendered_header (keywords_of f title pixels) ++ file_data f pixels

-- ---- 24: "bad argument"

abbrev pub within : ℕ → ℕ → ℕ → Bool
within least most n = leb least n && leb n most

abbrev pub positive_memory : ℤ → Bool
positive_memory (pos n) = leb 1 n
positive_memory (negsuc n) = false

-- "a type, order or instance code, memory under 1, dimension, configuration".
unfoldable pub frame_allowed : Frame → Bool
frame_allowed f =
    within 1 10 f.datatype && is_order f.byteorder && within 1 2 f.instance && positive_memory f.memory
    && within 1 3 f.n && every (within 1 dim_limit) (frame_dims f) && within 1 (configurations f.n) f.configuration

-- The bytes to write: 24 for the frame, "pixel length not as described, byte that can't stand there, or a file over the limit; then
-- 25".
unfoldable pub written_file : Frame → List ℕ → List ℕ → Outcome (List ℕ)
written_file f title pixels = do
  require (frame_allowed f) 24 0
  require (eqb (length pixels) (product (frame_dims f) * (frame_type f).width)) 24 0
  require (every text_byte title) 24 0
  require (leb (length (file_of f title pixels)) file_limit) 24 0
  short_text title
  Ok (file_of f title pixels)

-- A buffer that has room for every file.
abbrev pub FitsFile : Frame → List ℕ → List ℕ → Type 0
FitsFile f title pixels = (file : List ℕ) → written_file f title pixels ≡ Ok file → length file ≤ length pixels + header_room
