-- `array::read::data_of` meets its contract.
use mathlib.Core.Path.{◌∙◌}
use Rattle.array.proofs.ReadLaws.{data_part}
use Rattle.array.proofs.read.data_of.Goals as goal

pub returns : goal.returns
returns c = c.part.ensures ∙ data_part _ c.args.b c.requires
