-- `gaps::kind::starts_with_edf_key` meets its contract.
use Rattle.std.proofs.Common.{◌∙◌}
use Rattle.gaps.proofs.KindLaws.{no_first_key, first_key}
use Rattle.gaps.proofs.kind.starts_with_edf_key.Goals as goal

pub returns-in-Some : goal.returns-in-Some
returns-in-Some c = c.is_edf_key.ensures ∙ first_key _ _ c.in-Some.ensures

pub returns-in-None : goal.returns-in-None
returns-in-None c = no_first_key c.in-None.ensures
