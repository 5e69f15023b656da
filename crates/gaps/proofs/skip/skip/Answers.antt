-- `gaps::skip::skip` meets its contract.
use Rattle.std.proofs.Common.{sym, ◌∙◌}
use Rattle.text.specs.Whitespace.{visible}
use Rattle.gaps.proofs.SkipLaws.{skip_here, skip_found}
use Rattle.gaps.proofs.skip.skip.Goals as goal

pub returns-then-is_visible : goal.returns-then-is_visible
returns-then-is_visible c = skip_here _ _ c.if-from-s.true (sym c.is_visible.ensures ∙ c.if-is_visible.true)

pub returns-else-from-s : goal.returns-else-from-s
returns-else-from-s c = c.unwrap_or.ensures ∙ skip_found _ _ (c.find_by_blocks.ensures visible (λ b r q. q))
