-- The front of the header that the writer makes: all that stands before the value of its last keyword.
use Rattle.std.specs.Prelude.{List, [], ◌∷◌, ◌++◌, ℕ, ◌+◌, ◌-◌, pos, length, replicate, get_or}
use Rattle.scan.specs.Byte.{ascii}
use Rattle.text.specs.Decimal.{decimal}
use Rattle.blocks.specs.IdentityText.{identity_text}
use Rattle.raster.specs.Types.{order_words}
use Rattle.frame.specs.File.{frame_dims, frame_type}
use Rattle.text.specs.Text.{quoted_text}
use Rattle.rendering.specs.Most.{number_line_most, identity_line_most, order_line_most, type_line_most, dim_lines_most}
use Rattle.rendering.specs.Render.{Keyword, keyword, dim_keywords, lines, padding}
use Rattle.frame.specs.declared.Frame.{Frame}

-- The keywords before Title, for data of a size with its filling.
unfoldable pub leading : Frame → ℕ → List Keyword
leading f size =
    keyword (ascii "EDF_DataBlockID") (identity_text f.sequence f.instance f.memory)
    ∷ keyword (ascii "EDF_BinarySize") (decimal (pos size))
    ∷ keyword (ascii "ByteOrder") (get_or order_words (f.byteorder - 1) [])
    ∷ keyword (ascii "DataType") (frame_type f).word
    ∷ dim_keywords 1 (frame_dims f) ++ (keyword (ascii "DataRasterConfiguration") (decimal (pos f.configuration)) ∷ [])

-- Up to the value of Title.
unfoldable pub front : Frame → ℕ → List ℕ
front f size = ascii "{\r\n" ++ (lines (leading f size) ++ ascii "Title = ")

-- A title after the front, to the end of its line.
unfoldable pub titled : List ℕ → List ℕ → List ℕ
titled l title = l ++ (quoted_text title ++ ascii " ;\r\n")

-- Lines, closed by "the fewest spaces, CR LF, `}`, LF that make a multiple of 512".
unfoldable pub closed : List ℕ → List ℕ
closed l = l ++ (replicate (padding (length l + 4)) 32 ++ ascii "\r\n}\n")

-- ---- How many bytes they take at most

-- The keys EDF_BinarySize and DataRasterConfiguration have 14 and 23 bytes.
abbrev pub leading_most : ℕ
leading_most = identity_line_most + number_line_most 14 + order_line_most + type_line_most + dim_lines_most + number_line_most 23

-- `{`, CR, LF before the lines, and `Title = ` after them.
abbrev pub front_most : ℕ
front_most = 3 + leading_most + 8
