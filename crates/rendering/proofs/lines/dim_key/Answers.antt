-- `rendering::lines::dim_key` meets its contract.
use Rattle.append.proofs.WordLaws.{word_at}
use Rattle.rendering.proofs.LineLaws.{dim_key}
use Rattle.rendering.proofs.lines.dim_key.Goals as goal

pub returns : goal.returns
returns c = simp word_at (dim_key c.args.i c.requires)
