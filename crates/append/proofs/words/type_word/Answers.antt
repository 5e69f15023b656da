-- `append::words::type_word` meets its contract.
use Rattle.append.proofs.WordLaws.{word_at, type_word}
use Rattle.raster.specs.Types.{types}
use Rattle.append.proofs.words.type_word.Goals as goal

pub returns : goal.returns
unfolding types
returns c = simp word_at (type_word c.args.datatype)
