-- `raster::types::type_at` meets its contract.
use Rattle.std.specs.Prelude.{ℕ, Option, unwrap_or, slice_get}
use Rattle.std.proofs.Common.{rules}
use mathlib.Core.Path.{◌≡◌, ap, ◌∙◌}
use Rattle.raster.specs.declared.types.Class.{Class}
use Rattle.raster.specs.declared.types.Class.TheVariants.{Unsigned as unsigned}
use Rattle.raster.proofs.Tables.{table, table_at}
use Rattle.raster.proofs.types.type_at.Goals as goal

pub returns : goal.returns
returns c =
    let looked : c.copied.result ≡ slice_get table c.args.datatype = search rules in
    c.unwrap_or.ensures ∙ ap (λ (o : Option (ℕ × Class)). unwrap_or o (1, unsigned)) looked ∙ table_at c.args.datatype
