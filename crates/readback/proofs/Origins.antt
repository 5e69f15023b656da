-- Where the fields of a written file's block came from.
use mathlib.Core.Path.{◌≡◌, refl}
use mathlib.Core.List.{List}
use Prim.Native.Nat.{ℕ}
use Rattle.scan.specs.Byte.{same}
use Rattle.text.specs.Fold.{fold}
use Rattle.text.specs.Key.{strip, key_of}
use Rattle.text.specs.Whitespace.{whitespace}
use Rattle.header.specs.Entries.{lookup}
use Rattle.header.proofs.Laid.{entries_at}
use Rattle.blocks.specs.Counting.{is_edf_key}
use Rattle.blocks.specs.declared.Row.{Row}
use Rattle.keyword.specs.Origin.{origin_in}
use Rattle.origins.specs.Origins.{origins_in}
use Rattle.frame.specs.File.{keywords_of}
use Rattle.frame.specs.declared.Frame.{Frame}
use Rattle.frame.proofs.Allowed.{Writes}
use Rattle.readback.specs.Described.{written_origins}
use Rattle.readback.proofs.Keywords.{Values, Dims, one, two, three, keywords_with}
use Rattle.readback.proofs.Viewed.{view_with, dim_keywords_lem}
use Rattle.readback.proofs.Written.{values_of, row_of, keywords_are, dims_shape}

-- By computing, for one to three Dims.
origins_are : (row : Row) (v : Values) (t : List ℕ) {ds : List ℕ} → Dims ds → origins_in (view_with row (keywords_with v ds t)) ≡ written_origins
unfolding origin_in lookup is_edf_key same key_of strip fold whitespace entries_at
origins_are row v t (one a) = rw (dim_keywords_lem (one a)) refl
origins_are row v t (two a b) = rw (dim_keywords_lem (two a b)) refl
origins_are row v t (three a b c) = rw (dim_keywords_lem (three a b c)) refl

pub written_origins_lem : {f : Frame} {title pixels s : List ℕ} → Writes f title pixels s
    → origins_in (view_with (row_of f title pixels) (keywords_of f title pixels)) ≡ written_origins
written_origins_lem {f} {title} {pixels} w =
    rw (keywords_are f title pixels) (origins_are _ (values_of f pixels) title (dims_shape w))
