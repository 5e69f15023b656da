-- `gaps::kind::is_edf_body` meets its contract.
use Rattle.std.proofs.Common.{sym, ◌∙◌}
use Rattle.gaps.proofs.KindLaws.{edf_miss, edf_hit}
use Rattle.gaps.proofs.kind.is_edf_body.Goals as goal

pub returns-then-starts_with_edf_key : goal.returns-then-starts_with_edf_key
returns-then-starts_with_edf_key c =
    edf_hit _ _ (sym c.starts_with_edf_key.ensures ∙ c.if-starts_with_edf_key.true) c.is_well_formed.ensures

pub returns-else-starts_with_edf_key : goal.returns-else-starts_with_edf_key
returns-else-starts_with_edf_key c =
    c.if-starts_with_edf_key.false ∙ edf_miss _ _ (sym c.starts_with_edf_key.ensures ∙ c.if-starts_with_edf_key.false)
