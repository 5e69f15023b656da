-- A header as the writer lays it out, for any list of keywords.
use Rattle.std.specs.Prelude.{List, [], ◌∷◌, ◌++◌, ℕ, suc, ◌+◌, ◌-◌, ◌%◌, pos, length, replicate}
use Rattle.scan.specs.Byte.{ascii}
use Rattle.text.specs.Decimal.{decimal}

-- A keyword to write: its key, and its value as it is to stand in the file.
pub record Keyword : Type 0 where
  pub key : List ℕ
  pub value : List ℕ

abbrev pub keyword : List ℕ → List ℕ → Keyword
keyword k v = record { key = k; value = v }

-- "Dim_1 to Dim_N", from number k on.
unfoldable pub dim_keywords : ℕ → List ℕ → List Keyword
dim_keywords k [] = []
dim_keywords k (d ∷ ds) =
    record { key = ascii "Dim_" ++ decimal (pos k); value = decimal (pos d) } ∷ dim_keywords (suc k) ds

-- "Lines end CR LF: .. `Key = value ;`"
unfoldable pub line : Keyword → List ℕ
line k = k.key ++ (ascii " = " ++ (k.value ++ ascii " ;\r\n"))

unfoldable pub lines : List Keyword → List ℕ
lines [] = []
lines (k ∷ ks) = line k ++ lines ks

-- The least number that makes n a multiple of 512.
unfoldable pub padding : ℕ → ℕ
padding n = (512 - n % 512) % 512

-- "`{`, then" the lines.
unfoldable pub opening : List Keyword → List ℕ
opening ks = ascii "{\r\n" ++ lines ks

-- "then the fewest spaces, CR LF, `}`, LF that make a multiple of 512."
unfoldable pub rendered_header : List Keyword → List ℕ
rendered_header ks =
    opening ks ++ (replicate (padding (length (opening ks) + 4)) 32 ++ ascii "\r\n}\n")

-- "Zero bytes fill the pixels to a multiple of 512".
unfoldable pub filled : List ℕ → List ℕ
filled l = l ++ replicate (padding (length l)) 0
