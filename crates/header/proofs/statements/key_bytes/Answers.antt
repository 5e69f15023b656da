use Rattle.header.proofs.Leading.{part-key}
use Rattle.header.proofs.statements.key_bytes.Goals as goal

pub returns : goal.returns
returns c = part-key _ _ c.requires.0
