-- The keys that the rules for blocks name, as they stand after folding.
use Rattle.std.specs.Prelude.{List, ℕ}
use Rattle.scan.specs.Byte.{ascii}

abbrev pub SizeKey : List ℕ
SizeKey = ascii "size"

abbrev pub VersionKey : List ℕ
VersionKey = ascii "edf_dataformatversion"

abbrev pub DataBlocksKey : List ℕ
DataBlocksKey = ascii "edf_datablocks"

abbrev pub BlockIDKey : List ℕ
BlockIDKey = ascii "edf_datablockid"

abbrev pub BoundaryKey : List ℕ
BoundaryKey = ascii "edf_blockboundary"

abbrev pub HeaderSizeKey : List ℕ
HeaderSizeKey = ascii "edf_headersize"

abbrev pub BinarySizeKey : List ℕ
BinarySizeKey = ascii "edf_binarysize"

abbrev pub FileNameKey : List ℕ
FileNameKey = ascii "edf_binaryfilename"
